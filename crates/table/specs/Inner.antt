-- Only the contracts of functions below the entries speak of these: rows and roots held in arrays, laid over lent places, and copied.
use Rattle.std.specs.Prelude.{List, [], ◌∷◌, ℕ, zero, suc, replicate, Result, Ok, Err}
use Rattle.numbers.specs.General.{laid}
use Rattle.numbers.specs.Sizes.{ours, row_ceiling}
use Rattle.numbers.specs.declared.Refusal.{Refusal}
use Rattle.recipe.specs.declared.Row.{Row}
use Rattle.table.specs.Reading.{Reading, table, refused, counted}
use Rattle.table.specs.declared.Held.{Held}

-- The first n of the new elements over the first of the old ones, as far as both go; the old ones after them stay.
unfoldable pub overlaid : {A : Type 0} → ℕ → List A → List A → List A
overlaid zero new old = old
overlaid (suc n) [] old = old
overlaid (suc n) (x ∷ new) [] = []
overlaid (suc n) (x ∷ new) (y ∷ old) = x ∷ overlaid n new old

-- So many zeros.
unfoldable pub zeros : ℕ → List ℕ
zeros n = replicate n 0

-- A row of zeros.
abbrev pub blank : Row
blank = record { kind = 0; x = 0; y = 0 }

-- As many rows of zeros as a table can have rows.
unfoldable pub no_rows : List Row
no_rows = replicate row_ceiling blank

-- As many zeros as a table can have roots.
unfoldable pub no_roots : List ℕ
no_roots = replicate ours.procs 0

-- What is held of these rows and roots: they, with zeros after them, and how many they are.
abbrev pub holding : List Row → List ℕ → Held
holding rows roots = record { rows = laid rows no_rows; roots = laid roots no_roots; kept = counted rows roots }

-- What is held where nothing was read.
abbrev pub empty : Held
empty = holding [] []

-- What is held of a reading, or its refusal.
abbrev pub held_of : Reading → Result Held Refusal
held_of (table rows roots) = Ok (holding rows roots)
held_of (refused why) = Err why

-- The first numbers, as many as a table can have rows, with zeros after them.
abbrev pub column : List ℕ → List ℕ
column numbers = overlaid row_ceiling numbers (zeros row_ceiling)
