-- Small computed examples of the definitions, each by computation.
-- Assumes nothing.
use mathlib.Core.Path.{◌≡◌, refl}
use mathlib.Core.List.{[], ◌∷◌}
use Rattle.recipe.specs.declared.Row.{Row}
use Rattle.table.specs.Inner.{overlaid}
use Rattle.table.specs.Reading.{row_places}

abbrev step : Row
step = record { kind = 1; x = 7; y = 0 }

abbrev seq : Row
seq = record { kind = 2; x = 0; y = 1 }

abbrev other : Row
other = record { kind = 9; x = 8; y = 6 }

-- One of two rows is stored, and what stands after it stays.
one_stored : overlaid 1 (step ∷ seq ∷ []) (other ∷ other ∷ other ∷ []) ≡ step ∷ other ∷ other ∷ []
unfolding overlaid
one_stored = refl

-- The lent slice is too short for both, and only what fits is stored.
cut_short : overlaid 2 (step ∷ seq ∷ []) (other ∷ []) ≡ step ∷ []
unfolding overlaid
cut_short = refl

-- More are asked for than there are.
no_more : overlaid 5 (step ∷ []) (other ∷ other ∷ []) ≡ step ∷ other ∷ []
unfolding overlaid
no_more = refl

-- Of three slices, the shortest counts.
shortest_counts : row_places (1 ∷ 2 ∷ 9 ∷ []) (7 ∷ 0 ∷ []) (0 ∷ 1 ∷ 2 ∷ []) ≡ 2
shortest_counts = refl
