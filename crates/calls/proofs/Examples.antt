-- The verdict at small programs, worked out by computation.
-- Assumes nothing.
use mathlib.Core.Bool.{true, false}
use mathlib.Core.List.{[], ◌∷◌}
use mathlib.Core.Path.{◌≡◌, refl}
use Rattle.numbers.specs.General.{every}
use Rattle.calculus.specs.Syntax.{skip, step, seq, async, call}
use Rattle.calls.specs.Reached.{calling, reached, wide}

-- A procedure that calls itself makes the verdict wide if it is main, or main reaches it, however far below; one that main never reaches does not, whoever
-- else calls it, nor do calls that lead nowhere back.
who_counts :
    (wide (call 0 ∷ []) ≡ true)
    × (wide (call 1 ∷ call 0 ∷ []) ≡ true)
    × (wide (call 1 ∷ call 2 ∷ async (call 2) ∷ []) ≡ true)
    × (wide (skip ∷ async (call 1) ∷ []) ≡ false)
    × (wide (skip ∷ call 2 ∷ seq (step 0) (call 2) ∷ []) ≡ false)
    × (wide (call 1 ∷ skip ∷ call 1 ∷ []) ≡ false)
    × (wide (call 1 ∷ call 2 ∷ skip ∷ []) ≡ false)
unfolding every calling reached
who_counts = (refl, refl, refl, refl, refl, refl, refl)
