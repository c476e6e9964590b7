-- A row of an admitted table holds no label out of range, since each step's label is below the label_ceiling.
-- Assumes nothing.
use Prim.Native.Nat.{ℕ, ◌<◌}
use Rattle.numbers.specs.Sizes.{Size, label_ceiling}
use Rattle.recipe.specs.Tables.{Table, rows}
use Rattle.recipe.specs.Rules.{IsAdmitted}
use Rattle.recipe.specs.Statements.{statement_at}
use Rattle.recipe.proofs.EachRow.{each_row}
use Rattle.analysis.proofs.Meanings.{LabelsBelow}

pub labels_in_range : (z : Size) (t : Table) → IsAdmitted z t → (i : ℕ) → i < rows t → LabelsBelow (label_ceiling z.words) (statement_at t i)
labels_in_range z t ok i l =
    each_row z t ok (LabelsBelow (label_ceiling z.words)) tt (λ k h. h) (λ s s' p q. (p, q)) (λ s p. p) (λ s p. p) (λ s p. p) (λ f h. tt) i l
