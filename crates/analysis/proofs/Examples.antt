-- The definitions at small programs, worked out by computation: what rounds, waits and unreached procedures come to.
-- Assumes nothing.
use Prim.Native.Nat.{ℕ}
use mathlib.Core.List.{List, [], ◌∷◌}
use mathlib.Core.Path.{◌≡◌, refl}
use lib.ListN.{take}
use Rattle.numbers.specs.General.{every, lowest}
use Rattle.numbers.specs.Sizes.{ours}
use Rattle.labels.specs.Words.{bit, changed, alike}
use Rattle.labels.specs.Sets.{member, single, joined}
use Rattle.matrix.specs.Matrix.{crossed}
use Rattle.calculus.specs.Syntax.{Program, skip, step, seq, loop, async, finish, call}
use Rattle.analysis.specs.Rounds.{after}
use Rattle.analysis.specs.Replies.{rounds, main_pairs}

-- The words of the first three labels.
abbrev first_words : Program → List ℕ
first_words p = take 3 (main_pairs ours.words p)

-- A round works from the round before: what a called procedure leaves running reaches its caller in the second.
second_round :
    (rounds ours.words (seq (call 1) (step 1) ∷ async (step 0) ∷ []) ≡ 2)
    × (first_words (seq (call 1) (step 1) ∷ async (step 0) ∷ []) ≡ 2 ∷ 1 ∷ 0 ∷ [])
unfolding bit changed alike member single joined crossed lowest after every rounds
second_round = (refl, refl)

-- A wait ends what runs and keeps the pairs that it made: 0 met 1, and neither meets 2.
wait_keeps_pairs : first_words (seq (finish (seq (async (step 0)) (step 1))) (step 2) ∷ []) ≡ 2 ∷ 1 ∷ 0 ∷ []
unfolding bit changed alike member single joined crossed lowest after every rounds
wait_keeps_pairs = refl

-- The pairs of a procedure that main never reaches are not main's.
unreached_kept_apart : first_words (skip ∷ loop (async (step 0)) ∷ []) ≡ 0 ∷ 0 ∷ 0 ∷ []
unfolding bit changed alike member single joined crossed lowest after every rounds
unreached_kept_apart = refl
