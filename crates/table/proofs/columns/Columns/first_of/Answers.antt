-- As many rows as a table can have are stored into columns that have places for all of them.
use Rattle.std.proofs.Common.{◌≡◌, ℕ, List, ◌∙◌, min, length, map, arith}
use Rattle.std.proofs.lemmas.List.{length-map, length-replicate}
use Rattle.numbers.specs.Sizes.{row_ceiling}
use Rattle.recipe.specs.declared.Row.{Row}
use Rattle.table.specs.Inner.{zeros, overlaid, column}
use Rattle.table.specs.Reading.{row_places}
use Rattle.table.proofs.Overlaid.{overlaid_as_many}
use Rattle.table.proofs.SameColumns.{same_columns}
use Rattle.table.proofs.columns.Columns.first_of.Goals as goal

-- Columns of zeros have places for as many rows as a table can have.
in_column :
    {n places m : ℕ} (numbers : List ℕ) → length numbers ≡ m → n ≡ min row_ceiling m → places ≡ row_ceiling
    → overlaid (min n places) numbers (zeros row_ceiling) ≡ column numbers
unfolding zeros
in_column numbers e first full =
    overlaid_as_many _ _ numbers (zeros row_ceiling) (omega (arith, length-replicate {A = ℕ} row_ceiling 0))

pub returns : goal.returns
unfolding zeros
returns c =
    let rows = c.args.rows.now in
    let stored = c.store_rows.ensures in
    let places : row_places (zeros row_ceiling) (zeros row_ceiling) (zeros row_ceiling) ≡ row_ceiling = omega (arith, length-replicate {A = ℕ} row_ceiling 0) in
    let column_of = λ (f : Row → ℕ). in_column (map f rows) (length-map rows f) c.least-n.ensures places in
    same_columns _ _ c.least-n.ensures
    (stored.0 ∙ column_of (λ (row : Row). row.kind))
    (stored.1 ∙ column_of (λ (row : Row). row.x))
    (stored.2 ∙ column_of (λ (row : Row). row.y))
