-- Small recipes worked out: a round reads the round before it, a wait keeps the pairs of its body, and main has no pair of a procedure that it never calls.
-- Assumes nothing.
use mathlib.Core.Path.{◌≡◌, refl}
use mathlib.Core.List.{[], ◌∷◌}
use Prim.Native.Nat.{ℕ, zero, suc}
use Rattle.numbers.specs.Sizes.{ours, matrix_words}
use Rattle.labels.specs.Words.{bit, changed}
use Rattle.labels.specs.Sets.{member, none, single, joined}
use Rattle.matrix.specs.Matrix.{marked, crossed}
use Rattle.calculus.specs.Syntax.{skip, step, seq, async, finish, call, Program}
use Rattle.analysis.specs.Summaries.{empty_words, words_of}
use Rattle.analysis.specs.Rounds.{after}
use Rattle.analysis.specs.Replies.{rounds, main_pairs}

-- main calls procedure 1, which is one step
abbrev calling : Program
calling = call 1 ∷ (step 5 ∷ [])

-- round 1 reads round 0: main has no label yet
one_round_a_call : (w : ℕ) → (after w calling 1 0).L ≡ none w
unfolding after
one_round_a_call w = refl

-- round 2 reads round 1: main has its callee's
two_rounds_a_call : (w : ℕ) → (after w calling 2 0).L ≡ single w 5
unfolding after
two_rounds_a_call w = refl

-- what runs together inside a wait is a pair of the whole
a_wait_keeps_pairs : marked ours.words (words_of ours.words (λ f. empty_words ours.words) (finish (seq (async (step 0)) (step 1)))).M 0 1 ≡ 1
unfolding marked crossed changed joined single member bit
a_wait_keeps_pairs = refl

no_pair_of_skip : (w : ℕ) (p : Program) (k : ℕ) → (after w (skip ∷ p) k 0).M ≡ none (matrix_words w)
unfolding after
no_pair_of_skip w p zero = refl
no_pair_of_skip w p (suc k) = refl

-- where main does nothing, it has no pair, whatever the other procedures do
unreached_pairs_stay_out : (w : ℕ) (p : Program) → main_pairs w (skip ∷ p) ≡ none (matrix_words w)
unreached_pairs_stay_out w p = no_pair_of_skip w p (rounds w (skip ∷ p))
