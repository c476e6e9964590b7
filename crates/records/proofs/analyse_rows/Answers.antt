-- Too many rows are refused for their sizes, and of any others the columns give their table.
use Rattle.std.proofs.Common.{◌∙◌}
use Rattle.std.proofs.lemmas.Result.{err_from_is_err_and}
use Rattle.numbers.specs.Sizes.{ours}
use Rattle.table.proofs.CopiedTable.{columns_are}
use Rattle.records.proofs.TooMany.{too_many}
use Rattle.records.proofs.analyse_rows.Goals as goal

pub returns-in_err-of : goal.returns-in_err-of
returns-in_err-of c =
    let p = err_from_is_err_and c.from_residual.result c.from_residual.ensures.1 in
    rw (p.1, p.2, c.in_err-of.ensures.0) (too_many ours c.args.rows.now c.args.roots.now c.args.matrix.now c.in_err-of.ensures.1)

pub returns : goal.returns
returns c =
    let same = c.table.ensures ∙ columns_are c.args.rows.now c.in_ok-of.field-0 c.args.roots.now c.in_ok-of.ensures in
    rw (← same) (c.analyse.ensures.reply, c.analyse.ensures.pairs)
