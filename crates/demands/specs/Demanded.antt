-- What demands 2 and 3 ask of the words that were lent for an admitted recipe, and of its rounds on sets as the calculus has them.
use Rattle.std.specs.Prelude.{◌≡◌, ◌↔◌, List, ℕ, zero, suc, ◌≤◌, ◌<◌, length, get_or}
use Rattle.numbers.specs.Sizes.{ours, label_ceiling, matrix_words}
use Rattle.labels.specs.Words.{bit}
use Rattle.calculus.specs.Syntax.{Stmt, Program, body}
use Rattle.calculus.specs.Steps.{Steps}
use Rattle.calculus.specs.Enabled.{MayMeet}
use Rattle.calculus.specs.Rules.{Summary, nothing, summary_of, Inside, Least}
use Rattle.calculus.specs.Calls.{NoSelfCall}

-- Bit j of word i is set, and i and j are labels.
abbrev pub PairSet : List ℕ → ℕ → ℕ → Type 0
PairSet m i j = (i < label_ceiling ours.words) × (j < label_ceiling ours.words) × (bit (get_or m i 0) j ≡ 1)

-- The words m' that were m before are exactly main's pairs in the least solution. They hold every pair that the rules give a reached state, and all labels
-- that meet; without self-calls no others. Their number, and the words beyond the matrix, are as before.
pub record Demanded (p : Program) (m m' : List ℕ) : Type 1 where
  pub pairs : (B : ℕ → Summary) → Least p B → (i j : ℕ) → PairSet m' i j ↔ (B 0).M i j
  pub no_new : (B : ℕ → Summary) → Least p B → (s : Stmt) → Steps p (body p 0) s → (i j : ℕ) → (summary_of B s).M i j → PairSet m' i j
  pub marked : (i j : ℕ) → MayMeet p (body p 0) i j → PairSet m' i j
  pub met : NoSelfCall p → (i j : ℕ) → PairSet m' i j → MayMeet p (body p 0) i j
  pub size : length m' ≡ length m
  pub beyond : (i : ℕ) → matrix_words ours.words ≤ i → get_or m' i 0 ≡ get_or m i 0

-- The sets of procedure f after k rounds: none after none, and after one more those that the rules give its body from the round before.
unfoldable pub rule_rounds : Program → ℕ → ℕ → Summary
rule_rounds p zero f = nothing
rule_rounds p (suc k) f = summary_of (rule_rounds p k) (body p f)

-- After k rounds one more changes nothing: every procedure has the same sets after it.
abbrev pub Repeats : Program → ℕ → Type 0
Repeats p k = (f : ℕ) → Inside (rule_rounds p (suc k) f) (rule_rounds p k f) × Inside (rule_rounds p k f) (rule_rounds p (suc k) f)

-- k is the first count of rounds after which one more changes nothing.
pub record FirstRepeat (p : Program) (k : ℕ) : Type 0 where
  pub repeats : Repeats p k
  pub before : (l : ℕ) → l < k → ¬ Repeats p l
