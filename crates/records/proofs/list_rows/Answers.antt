-- Too many rows are refused for their sizes, and of any others the columns give their table.
use Rattle.std.proofs.Common.{◌∙◌}
use Rattle.std.proofs.lemmas.Result.{err_from_is_err_and}
use Rattle.numbers.specs.Sizes.{ours}
use Rattle.table.proofs.CopiedTable.{columns_are}
use Rattle.records.proofs.TooMany.{too_many_listed}
use Rattle.records.proofs.list_rows.Goals as goal

pub returns-in_err-of : goal.returns-in_err-of
returns-in_err-of c =
    let a = c.args in
    let p = err_from_is_err_and c.from_residual.result c.from_residual.ensures.1 in
    rw (p.1, p.2, c.in_err-of.ensures.0) (too_many_listed ours a.rows.now a.roots.now a.matrix.now c.in_err-of.ensures.1 a.bytes.now)

pub returns : goal.returns
returns c =
    let same = c.table.ensures ∙ columns_are c.args.rows.now c.in_ok-of.field-0 c.args.roots.now c.in_ok-of.ensures in
    rw (← same) (c.list_pairs.ensures.reply, c.list_pairs.ensures.marks, c.list_pairs.ensures.text)
