-- A test that passes at each number below n: it passes at each one of them, by recursion on n.
-- Assumes nothing.
use mathlib.Core.Bool.{Bool, true, false, ◌&&◌, true≢false}
use mathlib.Core.Logic.{◌⊎◌, inl, inr}
use mathlib.Core.Path.{◌≡◌, refl, sym, ap, ap₂, ◌∙◌, subst}
use Prim.Native.Nat.{ℕ, zero, suc, ◌<◌}
use native.Mathlib.Nat.{not-suc-le-zero, eq-or-lt_of_le, le_of_suc-le-suc, le_refl}
use native.Mathlib.Omega.{arith}
use Rattle.numbers.specs.General.{every}

both : (a b : Bool) → a && b ≡ true → (a ≡ true) × (b ≡ true)
both true b e = (refl, e)
both false b e = (e, absurd (let z : ◌≡◌ {A = ℕ} 0 1 = cc in omega arith))

module _ (test : ℕ → Bool) where
  pub every_none : every zero test ≡ true
  unfolding every
  every_none = refl

  pub every_next : (n : ℕ) → every (suc n) test ≡ (every n test && test n)
  unfolding every
  every_next n = refl

  pub every_passes : (n : ℕ) → every n test ≡ true → (k : ℕ) → k < n → test k ≡ true
  every_passes zero e k h = absurd (not-suc-le-zero h)
  every_passes (suc n) e k h = go (both _ _ (sym (every_next n) ∙ e)) (eq-or-lt_of_le (le_of_suc-le-suc h)) (λ a. every_passes n a k)
    where
      go : (every n test ≡ true) × (test n ≡ true) → (k ≡ n) ⊎ (k < n) → (every n test ≡ true → k < n → test k ≡ true) → test k ≡ true
      go p (inl e) rest = subst (λ (j : ℕ). test j ≡ true) (sym e) p.1
      go p (inr l) rest = rest p.0 l

  pub passes_every : (n : ℕ) → ((k : ℕ) → k < n → test k ≡ true) → every n test ≡ true
  passes_every zero e = every_none
  passes_every (suc n) e =
      every_next n
      ∙ ap (λ (b : Bool). b && test n) (passes_every n (λ k h. e k (omega arith)))
      ∙ e n (le_refl (suc n))

  -- a test that does not pass everywhere fails somewhere
  pub some_fails : (n : ℕ) → every n test ≡ false → (k : ℕ) × (test k ≡ false)
  unfolding every
  some_fails zero e = absurd (true≢false e)
  some_fails (suc n) e = go (every n test) (some_fails n) e
    where
      go : (a : Bool) → (a ≡ false → (k : ℕ) × (test k ≡ false)) → (a && test n) ≡ false → (k : ℕ) × (test k ≡ false)
      go true before e = (n, e)
      go false before e = before refl

-- two tests that agree below n pass everywhere alike
pub every_alike : (n : ℕ) (test other : ℕ → Bool) → ((k : ℕ) → k < n → test k ≡ other k) → every n test ≡ every n other
unfolding every
every_alike zero test other e = refl
every_alike (suc n) test other e = ap₂ ◌&&◌ (every_alike n test other (λ k h. e k (omega arith))) (e n (le_refl (suc n)))
