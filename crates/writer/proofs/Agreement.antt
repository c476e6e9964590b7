-- The two writers agree: for the same recipe the one on records and the one on three slices give the same reply and leave the same bytes, since the
-- slices' table is that of the records.
-- Assumes nothing.
use mathlib.Core.Path.{◌≡◌, sym, ap, ◌∙◌}
use mathlib.Core.List.{List}
use Prim.Native.Nat.{ℕ}
use lib.ListN.{length}
use Rattle.std.specs.Prelude.{Result}
use Rattle.numbers.specs.Sizes.{ours}
use Rattle.numbers.specs.declared.Refusal.{Refusal}
use Rattle.recipe.specs.Records.{kinds_of, xs_of, ys_of, table_of_rows}
use Rattle.recipe.specs.Tables.{Table}
use Rattle.recipe.specs.declared.Row.{Row}
use Rattle.table.proofs.CopiedTable.{same_table}
use Rattle.writer.specs.Inner.{Writes}
use Rattle.writer.specs.Replies.{written, bytes_written}
use Rattle.writer.proofs.write_sheet.Reads.{Post as write-sheet-post}

-- `write-sheet-post` is the contract of the writer on slices, `Writes` that of the writer on records.
pub writers_agree :
    (κs a r s : _) (lent : List Row) (r' : Result ℕ Refusal) (b' : List ℕ) → write-sheet-post κs a r s
    → a.0.now.kinds.now ≡ kinds_of lent → a.0.now.xs.now ≡ xs_of lent → a.0.now.ys.now ≡ ys_of lent
    → Writes ours (table_of_rows lent a.0.now.roots.now) a.1.0.now r' b'
    → (r ≡ r') × (s.1.0.now ≡ b')
writers_agree κs a r s lent r' b' slices p q t records =
    let same = same_table lent a.0.now.kinds.now a.0.now.xs.now a.0.now.ys.now a.0.now.roots.now p q t in
    let b = a.1.0.now in (
      slices.0 ∙ ap (λ (u : Table). written ours u (length b)) same ∙ sym records.0,
      slices.1 ∙ ap (λ (u : Table). bytes_written ours u b) same ∙ sym records.1,
    )
