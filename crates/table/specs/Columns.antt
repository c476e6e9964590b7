-- The columns that rows are copied into.
use native.Mathlib.Nat.{min-le_left}
use Rattle.std.specs.Prelude.{◌≡◌, ◌<◌, List, ℕ, length, min, take, Result, Ok, Err}
use Rattle.numbers.specs.Sizes.{row_ceiling}
use Rattle.numbers.specs.declared.Refusal.{Refusal}
use Rattle.numbers.specs.declared.Refusal.TheVariants.{Sizes}
use Rattle.recipe.specs.Records.{kinds_of, xs_of, ys_of}
use Rattle.recipe.specs.Tables.{Table, table_of}
use Rattle.recipe.specs.declared.Row.{Row}
use Rattle.table.specs.Inner.{column}
use Rattle.table.specs.declared.columns.Columns.{Columns}

-- The columns of the first rows, as many as a table can have: how many they are, and their fields each in a column of its own.
abbrev pub columns_of : List Row → Columns
columns_of rows =
    record {
      rows = min row_ceiling (length rows);
      kinds = column (kinds_of rows);
      xs = column (xs_of rows);
      ys = column (ys_of rows);
      fits = min-le_left row_ceiling (length rows);
    }

-- What copying rows comes to: their number, with the fields each in a column of its own, or the refusal of more rows than a table can have.
abbrev pub Copied : List Row → Result Columns Refusal → Type 0
Copied rows (Ok c) =
    (c.rows ≡ length rows) × (c.kinds ≡ column (kinds_of rows)) × (c.xs ≡ column (xs_of rows)) × (c.ys ≡ column (ys_of rows))
Copied rows (Err why) = (why ≡ Sizes) × (row_ceiling < length rows)

-- The table of these columns and roots: of each column as many entries as there are rows.
abbrev pub columns_table : Columns → List ℕ → Table
columns_table c roots = table_of (take c.rows c.kinds) (take c.rows c.xs) (take c.rows c.ys) roots
