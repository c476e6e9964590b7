-- Storing elements one by one, from the first, gives the first of the new ones with the old ones after them, since each store leaves what stands before and
-- after it.
-- Assumes nothing.
use mathlib.Core.Path.{◌≡◌, refl, sym, ap, ◌∙◌}
use mathlib.Core.List.{List, [], ◌∷◌, ◌++◌, map}
use Prim.Native.Nat.{ℕ, zero, suc, ◌+◌, ◌≤◌, ◌<◌, min}
use native.Mathlib.Nat.{suc-min-suc, zero-min, min-zero}
use native.Mathlib.Numerals.{add-one}
use native.Mathlib.Omega.{arith}
use lib.ListN.{length, get_or, set, take, drop, length-append}
use lib.Seq.{length-take-le, take-length, take-append_seam}
use Rattle.std.proofs.lemmas.List.{get_or-take, length-take}
use Rattle.numbers.specs.General.{laid}
use Rattle.table.specs.Inner.{overlaid}

module _ {A : Type 0} where
  -- The elements that `overlaid` stores are as many as both lists have.
  pub overlaid_is :
      (n : ℕ) (new old : List A)
      → overlaid n new old ≡ take (min (min n (length new)) (length old)) new ++ drop (min (min n (length new)) (length old)) old
  unfolding overlaid
  overlaid_is zero new old = rw (zero-min (length new), zero-min (length old))
  overlaid_is (suc n) [] old = rw (min-zero (suc n), zero-min (length old))
  overlaid_is (suc n) (x ∷ new) [] = rw (min-zero (min (suc n) (suc (length new))))
  overlaid_is (suc n) (x ∷ new) (y ∷ old) =
      rw (suc-min-suc n (length new), suc-min-suc (min n (length new)) (length old)) (ap (λ (l : List A). x ∷ l) (overlaid_is n new old))

  -- Two numbers of which as many elements are there on both sides store the same.
  pub overlaid_as_many :
      (n m : ℕ) (new old : List A) → min (min n (length new)) (length old) ≡ min (min m (length new)) (length old)
      → overlaid n new old ≡ overlaid m new old
  overlaid_as_many n m new old e =
      overlaid_is n new old ∙ ap (λ (k : ℕ). take k new ++ drop k old) e ∙ sym (overlaid_is m new old)

  -- Where n fits both, n are laid down.
  pub overlaid_fits : (n : ℕ) (new old : List A) → n ≤ length new → n ≤ length old → overlaid n new old ≡ laid (take n new) old
  overlaid_fits n new old p q =
      let e : min (min n (length new)) (length old) ≡ n = omega arith in
      overlaid_is n new old
      ∙ ap (λ (k : ℕ). take k new ++ drop k old) e
      ∙ ap (λ (k : ℕ). take n new ++ drop k old) (sym (length-take-le n new p))

  -- Where all new ones fit, they are laid down.
  pub overlaid_all : (n : ℕ) (new old : List A) → length new ≤ n → length new ≤ length old → overlaid n new old ≡ laid new old
  overlaid_all n new old p q =
      let e : min (min n (length new)) (length old) ≡ length new = omega arith in
      overlaid_is n new old ∙ ap (λ (k : ℕ). take k new ++ drop k old) e ∙ ap (λ (l : List A). l ++ drop (length new) old) (take-length new)

  -- What stands at the front is laid down, whatever follows it.
  pub overlaid_front : (n : ℕ) (front more old : List A) → n ≡ length front → n ≤ length old → overlaid n (front ++ more) old ≡ laid front old
  overlaid_front n front more old e h =
      overlaid_fits n (front ++ more) old (omega (arith, length-append front more)) h
      ∙ ap (λ (l : List A). laid l old) (ap (λ (k : ℕ). take k (front ++ more)) e ∙ take-append_seam front more)

module _ {A B : Type 0} (f : A → B) (none : A) where
  turn :
      (i : ℕ) (new : List A) (old : List B) → i < length new → i < length old
      → set (overlaid i (map f new) old) i (f (get_or new i none)) ≡ overlaid (suc i) (map f new) old
  unfolding overlaid
  turn i [] old p q = absurd (omega arith)
  turn i (x ∷ new) [] p q = absurd (omega arith)
  turn zero (x ∷ new) (y ∷ old) p q = refl
  turn (suc i) (x ∷ new) (y ∷ old) p q = ap (λ (l : List B). f x ∷ l) (turn i new old (omega arith) (omega arith))

  -- One turn of a loop that stores what `f` makes of the first m new elements; `none` stands for those behind the last.
  pub overlaid_next :
      (i m : ℕ) (new : List A) (old : List B) {held : List B} → held ≡ overlaid i (map f new) old → i < length (take m new) → i < length old
      → set held i (f (get_or (take m new) i none)) ≡ overlaid (i + 1) (map f new) old
  overlaid_next i m new old e p q =
      let in-m : i < m = omega (arith, length-take m new) in
      let same : get_or (take m new) i none ≡ get_or new i none = get_or-take m new i none in-m in
      rw (e, same, add-one i) (turn i new old (omega (arith, length-take m new)) q)
