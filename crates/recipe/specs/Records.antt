-- Row records, and the table that they make.
use Rattle.std.specs.Prelude.{List, map, ℕ}
use Rattle.recipe.specs.Tables.{Table, table_of}
use Rattle.recipe.specs.declared.Row.{Row}

-- The kinds of some rows, in their order.
abbrev pub kinds_of : List Row → List ℕ
kinds_of rows = map (λ (row : Row). row.kind) rows

-- Their first operands.
abbrev pub xs_of : List Row → List ℕ
xs_of rows = map (λ (row : Row). row.x) rows

-- Their second operands.
abbrev pub ys_of : List Row → List ℕ
ys_of rows = map (λ (row : Row). row.y) rows

-- The table of these records and roots.
abbrev pub table_of_rows : List Row → List ℕ → Table
table_of_rows rows roots = table_of (kinds_of rows) (xs_of rows) (ys_of rows) roots
