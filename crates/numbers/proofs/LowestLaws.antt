-- What `lowest` finds: the search from 0 upwards stops at the first place that passes the test, and at n where none does.
-- Assumes nothing.
use Prim.Native.Nat.{ℕ, zero, suc, ◌+◌, ◌≤◌, ◌<◌, suc-le-suc, zero-le}
use mathlib.Core.Path.{◌≡◌, refl, ap}
use mathlib.Core.Bool.{Bool, true, false, cond}
use native.Mathlib.Nat.{le_of_suc-le-suc}
use native.Mathlib.Omega.{arith}
use borrow.Author.Count.{below_more}
use Rattle.numbers.specs.General.{lowest}

-- It is the only place below which the test fails and at which, if it lies below n, the test passes.
pub lowest_is : (n : ℕ) (test : ℕ → Bool) (i : ℕ) → i ≤ n → ((k : ℕ) → k < i → test k ≡ false) → (i < n → test i ≡ true) → i ≡ lowest n test
unfolding lowest
lowest_is zero test i h before here = omega arith
lowest_is (suc n) test zero h before here = rw (here (suc-le-suc zero-le))
lowest_is (suc n) test (suc i) h before here =
    rw (before zero (suc-le-suc zero-le))
    (ap suc
    (lowest_is n (λ k. test (suc k)) i (le_of_suc-le-suc h) (λ k l. before (suc k) (suc-le-suc l)) (λ l. here (suc-le-suc l))))

-- It lies within n.
pub lowest_within : (n : ℕ) (test : ℕ → Bool) → lowest n test ≤ n
unfolding lowest
lowest_within zero test = zero-le
lowest_within (suc n) test = go (test zero) (lowest_within n (λ k. test (suc k)))
  where
    go : (b : Bool) → lowest n (λ k. test (suc k)) ≤ n → cond b zero (suc (lowest n (λ k. test (suc k)))) ≤ suc n
    go true h = zero-le
    go false h = suc-le-suc h

-- The test passes at it, if it lies below n.
pub lowest_passes : (n : ℕ) (test : ℕ → Bool) → lowest n test < n → test (lowest n test) ≡ true
unfolding lowest
lowest_passes zero test l = absurd (omega arith)
lowest_passes (suc n) test l = go (test zero) refl (lowest_passes n (λ k. test (suc k))) l
  where
    go : (b : Bool) → test zero ≡ b
        → (lowest n (λ k. test (suc k)) < n → test (suc (lowest n (λ k. test (suc k)))) ≡ true)
        → cond b zero (suc (lowest n (λ k. test (suc k)))) < suc n
        → test (cond b zero (suc (lowest n (λ k. test (suc k))))) ≡ true
    go true e later h = e
    go false e later h = later (le_of_suc-le-suc h)

-- The test fails at each place below it.
pub none_below : (n : ℕ) (test : ℕ → Bool) (k : ℕ) → k < lowest n test → test k ≡ false
unfolding lowest
none_below zero test k l = absurd (omega arith)
none_below (suc n) test zero l = go (test zero) refl
  where
    go : (b : Bool) → test zero ≡ b → test zero ≡ false
    go true e = let h : 0 < 0 = rw e at l in absurd (omega arith)
    go false e = e
none_below (suc n) test (suc k) l = none_below n (λ j. test (suc j)) k (go (test zero) l)
  where
    go : (b : Bool) → suc k < cond b zero (suc (lowest n (λ j. test (suc j)))) → k < lowest n (λ j. test (suc j))
    go true h = absurd (omega arith)
    go false h = le_of_suc-le-suc h

-- Where it is n, the test fails at each place below n.
pub none_at_all : (n : ℕ) (test : ℕ → Bool) → n ≤ lowest n test → (k : ℕ) → k < n → test k ≡ false
none_at_all n test h k l = none_below n test k (omega arith)

-- A search has passed the places below i and found nothing.
abbrev pub Passed : ℕ → (ℕ → Bool) → ℕ → Type 0
Passed n test i = (i ≤ n) × ((k : ℕ) → k < i → test k ≡ false)

pub passed_none : (n : ℕ) (test : ℕ → Bool) → Passed n test 0
passed_none n test = (omega arith, λ k l. absurd (omega arith))

pub passed_more : (n : ℕ) (test : ℕ → Bool) (i : ℕ) → i < n → Passed n test i → test i ≡ false → Passed n test (i + 1)
passed_more n test i l passed here = (omega arith, below_more _ i passed.1 here)

pub passed_found : (n : ℕ) (test : ℕ → Bool) (i : ℕ) → Passed n test i → test i ≡ true → i ≡ lowest n test
passed_found n test i passed here = lowest_is n test i passed.0 passed.1 (λ l. here)

pub passed_all : (n : ℕ) (test : ℕ → Bool) (i : ℕ) → Passed n test i → n ≤ i → i ≡ lowest n test
passed_all n test i passed end = lowest_is n test i passed.0 passed.1 (λ l. absurd (omega arith))

-- Where the test fails everywhere below n, it is n.
pub lowest_none : (n : ℕ) (test : ℕ → Bool) → ((k : ℕ) → k < n → test k ≡ false) → n ≡ lowest n test
lowest_none n test none = passed_all n test n (omega arith, none) (omega arith)
