-- The table of the columns that rows were copied into is the table of the rows, since each column begins with a field of all rows.
-- Assumes nothing.
use mathlib.Core.Path.{◌≡◌, sym, ◌∙◌}
use mathlib.Core.List.{List, map}
use Prim.Native.Nat.{ℕ, ◌≤◌}
use native.Mathlib.Omega.{arith}
use lib.ListN.{length, take, length-map}
use Rattle.std.specs.Prelude.{Ok}
use Rattle.numbers.specs.Sizes.{row_ceiling}
use Rattle.recipe.specs.Records.{kinds_of, xs_of, ys_of, table_of_rows}
use Rattle.recipe.specs.Tables.{table_of}
use Rattle.recipe.specs.declared.Row.{Row}
use Rattle.table.specs.Columns.{Copied, columns_table}
use Rattle.table.specs.Inner.{column}
use Rattle.table.specs.declared.columns.Columns.{Columns}
use Rattle.table.proofs.Laying.{column_begins}

-- Three slices that hold the fields of the rows are the same table.
pub same_table :
    (rows : List Row) (kinds xs ys roots : List ℕ) → kinds ≡ kinds_of rows → xs ≡ xs_of rows → ys ≡ ys_of rows
    → table_of kinds xs ys roots ≡ table_of_rows rows roots
same_table rows kinds xs ys roots p q s = cc

-- The first entries of a column, as many as there are rows, are the rows' field.
first_of :
    (field : Row → ℕ) (rows : List Row) {n : ℕ} {numbers : List ℕ} → n ≤ row_ceiling → n ≡ length rows → numbers ≡ column (map field rows)
    → take n numbers ≡ map field rows
first_of field rows fits many copied =
    rw (many ∙ sym (length-map rows field), copied) (column_begins (map field rows) (omega (arith, length-map rows field)))

pub columns_are : (rows : List Row) (c : Columns) (roots : List ℕ) → Copied rows (Ok c) → columns_table c roots ≡ table_of_rows rows roots
columns_are rows c roots copied =
    same_table rows _ _ _ roots
    (first_of (λ (r : Row). r.kind) rows c.fits copied.0 copied.1)
    (first_of (λ (r : Row). r.x) rows c.fits copied.0 copied.2)
    (first_of (λ (r : Row). r.y) rows c.fits copied.0 copied.3)
