-- How a sheet's line offends, and where, and how a sheet does: the list of the reader's refusals as a relation.
use Rattle.std.specs.Prelude.{◌≡◌, List, [], ◌++◌, ℕ, ◌+◌, ◌≤◌, ◌<◌, min, length}
use Rattle.numbers.specs.Sizes.{Size, row_ceiling, sheet_ceiling}
use Rattle.numbers.specs.declared.Refusal.{Refusal}
use Rattle.numbers.specs.declared.Refusal.TheVariants.{LongSheet}
use Rattle.recipe.specs.declared.Row.{Row}
use Rattle.sheet.specs.Form.{spell, Short, ShortRow, Every}
use Rattle.sheet.specs.Lines.{line_at, row_line, root_line, wrong_line}
use Rattle.sheet.specs.Reading.{wrong_form, no_room}

-- How line j offends where there is room for R rows and P procedures, by the rows and roots before it and the bytes from it on:
-- its form is wrong, or it is a row after a root, or it is of right form and the rows or the roots before it fill the room.
pub data Offends (R P : ℕ) (rows : List Row) (roots rest : List ℕ) (j : ℕ) : Refusal → Type 0 where
  misformed : line_at rest ≡ wrong_line → Offends R P rows roots rest j (wrong_form j)
  late :
      {row : Row} {t : List ℕ} → line_at rest ≡ row_line row t → 0 < length roots → Offends R P rows roots rest j (wrong_form j)
  row_lacks :
      {row : Row} {t : List ℕ} → line_at rest ≡ row_line row t → roots ≡ [] → length rows ≡ R
      → Offends R P rows roots rest j (no_room j)
  root_lacks :
      {root : ℕ} {t : List ℕ} → line_at rest ≡ root_line root t → length roots ≡ P → Offends R P rows roots rest j (no_room j)

-- The first line of a sheet that offends: the lines before it are rows and then roots, as they are spelled, short and with room; they make its number.
pub record Offence (R P : ℕ) (bytes : List ℕ) (why : Refusal) : Type 0 where
  pub rows : List Row
  pub roots : List ℕ
  pub rest : List ℕ
  pub spelled : bytes ≡ spell rows roots ++ rest
  pub rows_short : Every ShortRow rows
  pub roots_short : Every Short roots
  pub rows_fit : length rows ≤ R
  pub roots_fit : length roots ≤ P
  pub offends : Offends R P rows roots rest (length rows + length roots) why

-- What a sheet is refused with: it is too long, or it is not and a line of it offends, with room for what is lent up to the ceilings.
pub data SheetOffence (z : Size) (rowsLent rootsLent : ℕ) (bytes : List ℕ) : Refusal → Type 0 where
  too_long : sheet_ceiling < length bytes → SheetOffence z rowsLent rootsLent bytes LongSheet
  at_line :
      {why : Refusal} → length bytes ≤ sheet_ceiling → Offence (min row_ceiling rowsLent) (min z.procs rootsLent) bytes why
      → SheetOffence z rowsLent rootsLent bytes why
