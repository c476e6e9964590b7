-- A family of n yes/no values that only grows is final n rounds after the point from which a repeat lasts: until it repeats, each round adds one to
-- the number of those that are yes, and that number never passes n. Assumes nothing.
use mathlib.Core.Path.{◌≡◌, sym}
use mathlib.Core.Logic.{◌⊎◌, inl, inr, ⊎_elim}
use Prim.Native.Nat.{ℕ, zero, suc, ◌+◌, ◌≤◌, ◌<◌}
use native.Mathlib.Nat.{eq-or-lt_of_le, le_of_suc-le-suc, not-suc-le-zero}
use native.Mathlib.Decide.{dec_le}
use native.Mathlib.Omega.{arith}
use borrow.Author.Count.{below_more}
use Rattle.numbers.specs.General.{sum_below}
use Rattle.numbers.proofs.SumLaws.{sum_alike, sum_bounded}

-- the terms are the same below n, or the sum is larger
same_or_more :
    (n : ℕ) (a b : ℕ → ℕ) → ((f : ℕ) → a f ≤ b f) → ((f : ℕ) → f < n → b f ≡ a f) ⊎ (sum_below n a < sum_below n b)
unfolding sum_below
same_or_more zero a b grows = inl (λ f h. absurd (not-suc-le-zero h))
same_or_more (suc n) a b grows = joined (same_or_more n a b grows) (eq-or-lt_of_le (grows n))
  where
    joined :
        ((f : ℕ) → f < n → b f ≡ a f) ⊎ (sum_below n a < sum_below n b) → (a n ≡ b n) ⊎ (a n < b n)
        → ((f : ℕ) → f < suc n → b f ≡ a f) ⊎ (sum_below n a + a n < sum_below n b + b n)
    joined (inl same) (inl e) = inl (λ f h. below_more (λ f. b f ≡ a f) n same (sym e) f (omega arith))
    joined (inl same) (inr more) = inr (omega (arith, sum_alike n b a same))
    joined (inr more) (inl e) = inr (omega arith)
    joined (inr more) (inr m) = inr (omega arith)

module _
    (n start : ℕ)
    (x : ℕ → ℕ → ℕ)
    (bits : (k f : ℕ) → x k f < 2)
    (grows : (k f : ℕ) → x k f ≤ x (suc k) f)
    (beyond : (k f : ℕ) → n ≤ f → x (suc k) f ≡ x k f)
    (lasts : (k : ℕ) → start ≤ k → ((f : ℕ) → x (suc k) f ≡ x k f) → (f : ℕ) → x (suc (suc k)) f ≡ x (suc k) f)
  where
    abbrev Repeats : ℕ → Type 0
    Repeats k = (f : ℕ) → x (suc k) f ≡ x k f

    -- how many are yes in round k
    ayes : ℕ → ℕ
    ayes k = sum_below n (x k)

    repeat_or_more : (k : ℕ) → Repeats k ⊎ (ayes k < ayes (suc k))
    unfolding ayes
    repeat_or_more k = ⊎_elim (λ same. inl (λ f. either f same (dec_le n f))) inr (same_or_more n (x k) (x (suc k)) (grows k))
      where
        either : (f : ℕ) → ((f : ℕ) → f < n → x (suc k) f ≡ x k f) → Dec (n ≤ f) → x (suc k) f ≡ x k f
        either f same (yes past) = beyond k f past
        either f same (no inside) = same f (omega arith)

    -- a round is a repeat, or from `start` on every round so far has added one
    progress : (k : ℕ) → (start ≤ k → Repeats k) ⊎ (k < start + ayes (suc k))
    progress zero = ⊎_elim (λ r. inl (λ h. r)) (λ m. inr (omega arith)) (repeat_or_more zero)
    progress (suc k) = next (progress k) (repeat_or_more (suc k)) (dec_le start k)
      where
        next :
            (start ≤ k → Repeats k) ⊎ (k < start + ayes (suc k)) → Repeats (suc k) ⊎ (ayes (suc k) < ayes (suc (suc k))) → Dec (start ≤ k)
            → (start ≤ suc k → Repeats (suc k)) ⊎ (suc k < start + ayes (suc (suc k)))
        next earlier (inl r) started = inl (λ h. r)
        next (inl r) (inr more) (yes started) = inl (λ h. lasts k started (r started))
        next (inl r) (inr more) (no early) = inr (omega arith)
        next (inr so_far) (inr more) started = inr (omega arith)

    pub grown : (k : ℕ) → start + n ≤ k → (f : ℕ) → x (suc k) f ≡ x k f
    unfolding ayes
    grown k h =
        ⊎_elim (λ r. r (omega arith))
        (λ m. absurd (omega (arith, sum_bounded n 1 (x (suc k)) (λ f l. le_of_suc-le-suc (bits (suc k) f)))))
        (progress k)
