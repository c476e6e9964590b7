-- What a reader comes to, what is replied, and how many places three slices have.
use Rattle.std.specs.Prelude.{List, [], ℕ, min, length, Result, Ok, Err}
use Rattle.numbers.specs.declared.Refusal.{Refusal}
use Rattle.recipe.specs.declared.Row.{Row}
use Rattle.table.specs.declared.Room.{Room}

-- What reading comes to: the rows and the procedures' roots, or a refusal.
pub data Reading : Type 0 where
  table : List Row → List ℕ → Reading
  refused : Refusal → Reading

-- The rows that were read: none after a refusal.
abbrev pub rows_of : Reading → List Row
rows_of (table rows roots) = rows
rows_of (refused why) = []

-- The roots that were read: none after a refusal.
abbrev pub roots_of : Reading → List ℕ
roots_of (table rows roots) = roots
roots_of (refused why) = []

-- How many rows and roots these are.
abbrev pub counted : List Row → List ℕ → Room
counted rows roots = record { rows = length rows; roots = length roots }

-- The reply: the numbers of rows and of procedures read, or the refusal.
abbrev pub reply_of : Reading → Result Room Refusal
reply_of (table rows roots) = Ok (counted rows roots)
reply_of (refused why) = Err why

-- How many rows three slices have places for: as many as the shortest.
abbrev pub row_places : List ℕ → List ℕ → List ℕ → ℕ
row_places kinds xs ys = min (length kinds) (min (length xs) (length ys))
