-- The order of the pairs and the number of lines, said of lists as they stand.
use Rattle.std.specs.Prelude.{◌≡◌, ◌⊎◌, ℕ, ◌+◌, ◌<◌, eqb}
use mathlib.Core.List.{List, [], ◌∷◌, Memᴰ}
use Rattle.numbers.specs.General.{one_if}
use Rattle.text.specs.Bytes.{newline}
use Rattle.matrix.specs.Matrix.{Pair}

-- One pair stands before another: by its first label, and where those are the same by its second.
abbrev pub Before : Pair → Pair → Type 0
Before p q = (p.0 < q.0) ⊎ ((p.0 ≡ q.0) × (p.1 < q.1))

-- Each pair of the list stands before all that follow it.
abbrev pub Ascending : List Pair → Type 0
Ascending [] = Unit
Ascending (p ∷ more) = ((q : Pair) → Memᴰ q more → Before p q) × Ascending more

-- How many lines the bytes have: how many of them are newlines.
unfoldable pub line_count : List ℕ → ℕ
line_count [] = 0
line_count (b ∷ more) = one_if (eqb b newline) + line_count more
