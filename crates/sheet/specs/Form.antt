-- The form of a sheet: what the lines of a table look like.
use mathlib.Core.List.{List, [], ◌∷◌, ◌++◌, flat_map}
use Rattle.std.specs.Prelude.{ℕ, ◌≤◌, min, length, get_or}
use Rattle.numbers.specs.Sizes.{Size, row_ceiling, sheet_ceiling}
use Rattle.recipe.specs.declared.Row.{Row}
use Rattle.text.specs.Bytes.{ascii}
use Rattle.text.specs.Lines.{line}
use Rattle.text.specs.Numbers.{spelled}

-- The keywords of the kinds, from kind 0 on.
abbrev pub keywords : List (List ℕ)
keywords =
    ascii "skip"
    ∷ ascii "step"
    ∷ ascii "seq"
    ∷ ascii "loop"
    ∷ ascii "async"
    ∷ ascii "finish"
    ∷ ascii "call"
    ∷ []

-- The keyword of a kind, and none where there is no such kind.
abbrev pub keyword : ℕ → List ℕ
keyword kind = get_or keywords kind []

-- The line of a row: R, the kind's keyword, x and y.
unfoldable pub spelled_row : Row → List ℕ
spelled_row r = line (ascii "R") (keyword r.kind ∷ spelled r.x ∷ spelled r.y ∷ [])

-- The line of a procedure: P and its root.
unfoldable pub spelled_root : ℕ → List ℕ
spelled_root root = line (ascii "P") (spelled root ∷ [])

-- A table as a sheet: the lines of the rows in order, then those of the procedures in order.
unfoldable pub spell : List Row → List ℕ → List ℕ
spell rows roots = flat_map spelled_row rows ++ flat_map spelled_root roots

-- A number that a field can hold: at most four digits.
abbrev pub Short : ℕ → Type 0
Short n = n ≤ 9999

-- A row that a line can hold: its kind has a keyword, and its operands are short.
pub record ShortRow (row : Row) : Type 0 where
  pub kind : row.kind ≤ 6
  pub x : Short row.x
  pub y : Short row.y

-- Every element of a list is such.
abbrev pub Every : {A : Type 0} → (A → Type 0) → List A → Type 0
Every P [] = Unit
Every P (a ∷ l) = P a × Every P l

-- A table that a sheet can hold at this size, and so many places for rows and for roots with it.
pub record Holdable (z : Size) (rowsLent rootsLent : ℕ) (rows : List Row) (roots : List ℕ) : Type 0 where
  pub rows_short : Every ShortRow rows
  pub roots_short : Every Short roots
  pub rows_fit : length rows ≤ min row_ceiling rowsLent
  pub roots_fit : length roots ≤ min z.procs rootsLent
  pub sheet_fits : length (spell rows roots) ≤ sheet_ceiling
