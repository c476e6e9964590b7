-- A table's rows as records, and records as a table, are each other's way back: a list is its elements in turn.
-- Assumes nothing.
use mathlib.Core.Path.{◌≡◌, refl, sym, ap, ◌∙◌}
use mathlib.Core.List.{List, [], ◌∷◌}
use Prim.Native.Nat.{ℕ, zero, suc}
use lib.ListN.{length, get_or, length-map}
use Rattle.numbers.specs.General.{in_turn}
use Rattle.numbers.proofs.InTurnLaws.{in_turn_alike, length_ones, map_ones, list_of_ones}
use Rattle.recipe.specs.Records.{kinds_of, xs_of, ys_of, table_of_rows}
use Rattle.recipe.specs.Tables.{Table, rows, x_at, y_at}
use Rattle.recipe.specs.declared.Row.{Row}
use Rattle.table.specs.Inner.{blank}
use Rattle.writer.specs.Sheets.{row_at, records_of}

-- ---- records first

-- Row i of the table that records make is record i.
pub row_again : (records : List Row) (roots : List ℕ) (i : ℕ) → row_at (table_of_rows records roots) i ≡ get_or records i blank
row_again [] roots i = refl
row_again (row ∷ more) roots zero = refl
row_again (row ∷ more) roots (suc i) = row_again more roots i

module _ (records : List Row) (roots : List ℕ) where
  pub records_again : records_of (table_of_rows records roots) ≡ records
  records_again =
      in_turn_alike (rows (table_of_rows records roots)) (λ i. row_at (table_of_rows records roots) i ∷ []) (λ i. get_or records i blank ∷ [])
      (λ i h. ap (λ (row : Row). row ∷ []) (row_again records roots i))
      ∙ ap (λ (n : ℕ). in_turn n (λ i. get_or records i blank ∷ [])) (length-map records (λ (row : Row). row.kind))
      ∙ list_of_ones records blank

-- ---- the table first

module _ (t : Table) where
  pub as_many_records : length (records_of t) ≡ rows t
  as_many_records = length_ones (row_at t) (rows t)

  pub kinds_again : kinds_of (records_of t) ≡ t.kinds
  kinds_again = map_ones (row_at t) (λ (row : Row). row.kind) (rows t) ∙ list_of_ones t.kinds 0

  pub xs_again : length t.xs ≡ rows t → xs_of (records_of t) ≡ t.xs
  xs_again whole =
      map_ones (row_at t) (λ (row : Row). row.x) (rows t)
      ∙ ap (λ (n : ℕ). in_turn n (λ i. x_at t i ∷ [])) (sym whole)
      ∙ list_of_ones t.xs 0

  pub ys_again : length t.ys ≡ rows t → ys_of (records_of t) ≡ t.ys
  ys_again whole =
      map_ones (row_at t) (λ (row : Row). row.y) (rows t)
      ∙ ap (λ (n : ℕ). in_turn n (λ i. y_at t i ∷ [])) (sym whole)
      ∙ list_of_ones t.ys 0
