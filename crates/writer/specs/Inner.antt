-- Only the contracts of inner functions speak of these: the lines of rows, and a reply and the lent bytes after it as one name.
use Rattle.std.specs.Prelude.{◌≡◌, ℕ, ◌≤◌, length, Result, Ok}
use mathlib.Core.List.{List, flat_map}
use Rattle.numbers.specs.Sizes.{Size, row_ceiling}
use Rattle.numbers.specs.declared.Refusal.{Refusal}
use Rattle.recipe.specs.Rules.{judged_by}
use Rattle.recipe.specs.Tables.{Table}
use Rattle.writer.specs.Rules.{table_rules}
use Rattle.sheet.specs.Form.{spelled_row}
use Rattle.writer.specs.Sheets.{records_of}
use Rattle.writer.specs.Replies.{written, bytes_written}

-- The lines of a table's rows.
abbrev pub row_lines : Table → List ℕ
row_lines t = flat_map spelled_row (records_of t)

-- Sizes that can be written: rows and procedures up to the ceilings, and both operands to each row.
pub record WritableSizes (z : Size) (rows xs ys procs : ℕ) : Type 0 where
  pub few_rows_lem : rows ≤ row_ceiling
  pub few_procs_lem : procs ≤ z.procs
  pub xs_match : xs ≡ rows
  pub ys_match : ys ≡ rows

-- The writer's judge admits the table.
abbrev pub IsWritable : Size → Table → Type 0
IsWritable z t = judged_by (table_rules z t) ≡ Ok tt

-- The reply r to a table and the bytes b, and the bytes b' after it.
abbrev pub Writes : Size → Table → List ℕ → Result ℕ Refusal → List ℕ → Type 0
Writes z t b r b' = (r ≡ written z t (length b)) × (b' ≡ bytes_written z t b)
