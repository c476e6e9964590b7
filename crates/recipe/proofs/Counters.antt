-- What a counter that stops at two holds: one step on from the least of two and n is the least of two and n + 1.
-- Assumes nothing.
use Prim.Native.Nat.{ℕ, zero, suc, ◌+◌, ◌≤◌, ◌<◌, min}
use mathlib.Core.List.{List}
use mathlib.Core.Path.{◌≡◌, refl, sym, ap, ◌∙◌, subst}
use mathlib.Core.Bool.{Bool, true, false}
use native.Mathlib.Omega.{arith}
use native.Mathlib.Nat.{add-zero}
use borrow.Author.Tests.{eqb-true, eqb-false, eq-eqb, ne_eqb, lt-ltb, le-ltb}
use lib.Dec.{eqb, ltb}
use lib.ListN.{length, get_or, set, take, length-set, replicate, length-replicate, get_or-replicate}
use Rattle.std.proofs.lemmas.List.{length-take-le, get_or-take}
use lib.Seq.{get_or-set_same, get_or-set_other}
use Rattle.numbers.specs.General.{one_if, First, Nowhere}
use Rattle.numbers.specs.Sizes.{row_ceiling}
use Rattle.recipe.specs.Inner.{Counts}

-- Counters say the same of two counts that are equal everywhere.
pub counts_same : (counts : List ℕ) (met other : ℕ → ℕ) → ((i : ℕ) → met i ≡ other i) → Counts counts met → Counts counts other
counts_same counts met other same c = (c.0, λ i l. c.1 i l ∙ ap (min 2) (same i))

-- A counter below two goes one up.
pub counts_up : (counts : List ℕ) (row : ℕ) → row < row_ceiling → get_or counts row 0 < 2
    → (met : ℕ → ℕ) → Counts counts met → Counts (set counts row (get_or counts row 0 + 1)) (λ i. met i + one_if (eqb row i))
counts_up counts row r below met c = (simp length-set c.0, λ i l. go i l (eqb row i) refl)
  where
    go : (i : ℕ) → i < row_ceiling → (t : Bool) → eqb row i ≡ t
        → get_or (set counts row (get_or counts row 0 + 1)) i 0 ≡ min 2 (met i + one_if t)
    go i l true e =
        let same : row ≡ i = eqb-true row i e in
        let h : row < length counts = omega (arith, c.0) in
        let at : get_or (set counts row (get_or counts row 0 + 1)) i 0 ≡ get_or counts row 0 + 1 =
        ap (λ (k : ℕ). get_or (set counts row (get_or counts row 0 + 1)) k 0) (sym same) ∙ get_or-set_same counts row _ 0 h in
        let old : get_or counts row 0 ≡ min 2 (met row) = c.1 row r in
        at ∙ subst (λ (k : ℕ). get_or counts row 0 + 1 ≡ min 2 (met k + 1)) same (omega arith)
    go i l false e =
        get_or-set_other counts row i _ 0 (λ (q : i ≡ row). eqb-false row i e (sym q)) ∙ c.1 i l ∙ ap (min 2) (sym (add-zero (met i)))

-- A counter at two stays.
pub counts_stay : (counts : List ℕ) (row : ℕ) → row < row_ceiling → 2 ≤ get_or counts row 0
    → (met : ℕ → ℕ) → Counts counts met → Counts counts (λ i. met i + one_if (eqb row i))
counts_stay counts row r full met c = (c.0, λ i l. go i l (eqb row i) refl)
  where
    go : (i : ℕ) → i < row_ceiling → (t : Bool) → eqb row i ≡ t → get_or counts i 0 ≡ min 2 (met i + one_if t)
    go i l true e =
        let old : get_or counts row 0 ≡ min 2 (met row) = c.1 row r in
        subst (λ (k : ℕ). get_or counts k 0 ≡ min 2 (met k + 1)) (eqb-true row i e) (omega arith)
    go i l false e = c.1 i l ∙ ap (min 2) (sym (add-zero (met i)))

-- Counters at 0 have met nothing.
pub counts_none : Counts (replicate row_ceiling 0) (λ i. 0)
counts_none = (length-replicate {A = ℕ} row_ceiling 0, λ i l. get_or-replicate row_ceiling i 0 0 l)

-- A search over other numbers that passes at the same places finds the same.
first_same : {n m i : ℕ} (test other : ℕ → Bool) → n ≡ m → ((k : ℕ) → k < m → test k ≡ other k) → First n test i → First m other i
first_same test other e same f =
    record {
      there = omega (arith, f.there);
      passes = sym (same _ (omega (arith, f.there))) ∙ f.passes;
      before = λ k l. sym (same k (omega (arith, f.there))) ∙ f.before k l;
    }

nowhere_same : {n m : ℕ} (test other : ℕ → Bool) → n ≡ m → ((k : ℕ) → k < m → test k ≡ other k) → Nowhere n test → Nowhere m other
nowhere_same test other e same none k l = sym (same k l) ∙ none k (omega arith)

module _ (counts : List ℕ) (met : ℕ → ℕ) (n : ℕ) (h : n ≤ row_ceiling) (c : Counts counts met) where
  -- Whether the counter of a row among the first n stands at a number.
  abbrev at : ℕ → ℕ → Bool
  at wanted i = eqb (get_or (take n counts) i 0) wanted

  size : length (take n counts) ≡ n
  size = length-take-le n counts (omega (arith, c.0))

  held : (k : ℕ) → k < n → get_or (take n counts) k 0 ≡ min 2 (met k)
  held k l = get_or-take n counts k 0 l ∙ c.1 k (omega arith)

  -- A counter at two is that of a row that was met more than once.
  two : (k : ℕ) → k < n → at 2 k ≡ ltb 1 (met k)
  two k l = go (get_or (take n counts) k 0) (met k) (held k l)
    where
      go : (a m : ℕ) → a ≡ min 2 m → eqb a 2 ≡ ltb 1 m
      go a zero e = ne_eqb a 2 (λ (q : a ≡ 2). omega arith) ∙ sym (le-ltb 1 0 (omega arith))
      go a (suc zero) e = ne_eqb a 2 (λ (q : a ≡ 2). omega arith) ∙ sym (le-ltb 1 1 (omega arith))
      go a (suc (suc m)) e = eq-eqb a 2 (omega arith) ∙ sym (lt-ltb 1 (suc (suc m)) (omega arith))

  -- A counter at 0 is that of a row that was never met.
  none : (k : ℕ) → k < n → at 0 k ≡ eqb (met k) 0
  none k l = go (get_or (take n counts) k 0) (met k) (held k l)
    where
      go : (a m : ℕ) → a ≡ min 2 m → eqb a 0 ≡ eqb m 0
      go a zero e = eq-eqb a 0 (omega arith)
      go a (suc m) e = ne_eqb a 0 (λ (q : a ≡ 0). omega arith) ∙ sym (ne_eqb (suc m) 0 (λ (q : suc m ≡ 0). omega arith))

  -- So the first of the one is the first of the other.
  pub first_at_two : {i : ℕ} → First (length (take n counts)) (at 2) i → First n (λ i. ltb 1 (met i)) i
  first_at_two = first_same (at 2) _ size two

  pub nowhere_at_two : Nowhere (length (take n counts)) (at 2) → Nowhere n (λ i. ltb 1 (met i))
  nowhere_at_two = nowhere_same (at 2) _ size two

  pub first_at_zero : {i : ℕ} → First (length (take n counts)) (at 0) i → First n (λ i. eqb (met i) 0) i
  first_at_zero = first_same (at 0) _ size none

  pub nowhere_at_zero : Nowhere (length (take n counts)) (at 0) → Nowhere n (λ i. eqb (met i) 0)
  nowhere_at_zero = nowhere_same (at 0) _ size none
