-- What a sheet comes to that is read into row records.
use Rattle.std.specs.Prelude.{List, ℕ, length}
use Rattle.numbers.specs.Sizes.{Size}
use Rattle.recipe.specs.declared.Row.{Row}
use Rattle.table.specs.Reading.{Reading}
use Rattle.sheet.specs.Reading.{read_sheet}

-- The reading into these records and roots: each record is a place for a row.
abbrev pub read_records : Size → List ℕ → List Row → List ℕ → Reading
read_records z bytes rows roots = read_sheet z (length rows) (length roots) bytes
