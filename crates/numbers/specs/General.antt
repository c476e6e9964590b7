-- Definitions of general use: tests, sums and lists over the numbers below a bound, and what is laid at the front of a list.
use Rattle.std.specs.Prelude.{Bool, true, false, cond, ◌&&◌, List, [], ◌++◌, ◌≡◌, ℕ, zero, suc, ◌+◌, ◌<◌, length, drop}

-- A test as a number: 1 if it passes, else 0.
abbrev pub one_if : Bool → ℕ
one_if b = cond b 1 0

-- f 0 + f 1 + .. up to and without f n.
unfoldable pub sum_below : ℕ → (ℕ → ℕ) → ℕ
sum_below zero f = 0
sum_below (suc n) f = sum_below n f + f n

-- Whether the test passes at each number below n.
unfoldable pub every : ℕ → (ℕ → Bool) → Bool
every zero test = true
every (suc n) test = every n test && test n

-- The least k below n at which the test passes, and n where there is none.
unfoldable pub lowest : ℕ → (ℕ → Bool) → ℕ
lowest zero test = zero
lowest (suc n) test = cond (test zero) zero (suc (lowest n (λ k. test (suc k))))

-- Of the places below n, i is the lowest at which the test passes.
pub record First (n : ℕ) (test : ℕ → Bool) (i : ℕ) : Type 0 where
  pub there : i < n
  pub passes : test i ≡ true
  pub before : (k : ℕ) → k < i → test k ≡ false

-- The test passes at no place below n.
abbrev pub Nowhere : ℕ → (ℕ → Bool) → Type 0
Nowhere n test = (k : ℕ) → k < n → test k ≡ false

-- The lists f 0, f 1, .. up to and without f n, one behind the other.
unfoldable pub in_turn : {A : Type 0} → ℕ → (ℕ → List A) → List A
in_turn zero f = []
in_turn (suc n) f = in_turn n f ++ f n

-- The new list laid over the front of the old one; what lies beyond it stays.
abbrev pub laid : {A : Type 0} → List A → List A → List A
laid new old = new ++ drop (length new) old
