-- Too many rows are refused for their sizes, and of any others the columns are their fields.
use Rattle.std.proofs.Common.{length, ap, ◌∙◌}
use Rattle.std.proofs.lemmas.Result.{err_from_is_err_and}
use Rattle.numbers.specs.Sizes.{ours}
use Rattle.recipe.specs.Tables.{Table}
use Rattle.table.proofs.CopiedTable.{columns_are}
use Rattle.writer.specs.Replies.{written, bytes_written}
use Rattle.writer.proofs.ReplyLaws.{too_many}
use Rattle.writer.proofs.write_rows.Goals as goal

pub returns-in_err-columns : goal.returns-in_err-columns
returns-in_err-columns c =
    let why = err_from_is_err_and c.from_residual.result c.from_residual.ensures.1 in
    rw (why.1, why.2, c.in_err-columns.ensures.0) (too_many ours c.args.rows.now c.args.roots.now c.args.bytes.now c.in_err-columns.ensures.1)

pub returns : goal.returns
returns c =
    let a = c.args in
    let same = c.table.ensures ∙ columns_are a.rows.now c.in_ok-columns.columns a.roots.now c.in_ok-columns.ensures in (
      c.write_sheet.ensures.reply ∙ ap (λ (t : Table). written ours t (length a.bytes.now)) same,
      c.write_sheet.ensures.text ∙ ap (λ (t : Table). bytes_written ours t a.bytes.now) same,
    )
