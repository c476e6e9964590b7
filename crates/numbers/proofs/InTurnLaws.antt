-- Lists in turn: their length, what is in them, that they are empty where each is, and lists of one in turn. By recursion on their number.
-- Assumes nothing.
use mathlib.Core.List.{List, [], ◌∷◌, ◌++◌, map, map-append}
use mathlib.Core.List.Memᴰ
use mathlib.Core.List.{Memᴰ}
use mathlib.Core.Logic.{⊎_elim}
use mathlib.Core.Path.{◌≡◌, refl, sym, ap, ap₂, ◌∙◌, subst}
use Prim.Native.Nat.{ℕ, zero, suc, ◌+◌, ◌≤◌, ◌<◌}
use native.Mathlib.Nat.{le_refl, not-suc-le-zero}
use native.Mathlib.Decide.{dec_lt}
use native.Mathlib.Omega.{arith}
use lib.ListN.{length, get_or, take, length-append}
use lib.Seq.{take-suc, take-length}
use Rattle.numbers.specs.General.{sum_below, in_turn}

-- an element stands in one of the lists
pub record InOneOf {A : Type 0} (n : ℕ) (f : ℕ → List A) (a : A) : Type 0 where
  pub place : ℕ
  pub below : place < n
  pub there : Memᴰ a (f place)

module _ {A : Type 0} (f : ℕ → List A) where
  pub one_more_in_turn : (n : ℕ) → in_turn (suc n) f ≡ in_turn n f ++ f n
  unfolding in_turn
  one_more_in_turn n = refl

  pub length_in_turn : (n : ℕ) → length (in_turn n f) ≡ sum_below n (λ k. length (f k))
  unfolding in_turn sum_below
  length_in_turn zero = refl
  length_in_turn (suc n) = length-append (in_turn n f) (f n) ∙ ap (λ (x : ℕ). x + length (f n)) (length_in_turn n)

  pub none_in_turn : (n : ℕ) → ((k : ℕ) → k < n → f k ≡ []) → in_turn n f ≡ []
  unfolding in_turn
  none_in_turn zero e = refl
  none_in_turn (suc n) e = ap₂ ◌++◌ (none_in_turn n (λ k h. e k (omega arith))) (e n (le_refl (suc n)))

  pub in_one_of : (n : ℕ) (a : A) → Memᴰ a (in_turn n f) → InOneOf n f a
  unfolding in_turn
  in_one_of zero a h = absurd (Memᴰ.not-nil h)
  in_one_of (suc n) a h =
      ⊎_elim
      (λ earlier. let e = in_one_of n a earlier in record { place = e.place; below = omega (arith, e.below); there = e.there })
      (λ last. record { place = n; below = le_refl (suc n); there = last })
      (Memᴰ.append_cases (in_turn n f) h)

  pub in_turn_lem : (n : ℕ) (a : A) (k : ℕ) → k < n → Memᴰ a (f k) → Memᴰ a (in_turn n f)
  unfolding in_turn
  in_turn_lem zero a k h there = absurd (not-suc-le-zero h)
  in_turn_lem (suc n) a k h there = by_order (dec_lt k n) (in_turn_lem n a k)
    where
      by_order : Dec (k < n) → (k < n → Memᴰ a (f k) → Memᴰ a (in_turn n f)) → Memᴰ a (in_turn n f ++ f n)
      by_order (yes l) earlier = Memᴰ.append_left (f n) (earlier l there)
      by_order (no l) earlier =
          let last : k ≡ n = omega arith in Memᴰ.append_right (in_turn n f) (subst (λ (x : ℕ). Memᴰ a (f x)) last there)

-- lists that agree below n are the same in turn
pub in_turn_alike : {A : Type 0} (n : ℕ) (f g : ℕ → List A) → ((k : ℕ) → k < n → f k ≡ g k) → in_turn n f ≡ in_turn n g
unfolding in_turn
in_turn_alike zero f g same = refl
in_turn_alike (suc n) f g same = ap₂ ◌++◌ (in_turn_alike n f g (λ k h. same k (omega arith))) (same n (le_refl (suc n)))

-- lists of one element each
module _ {A : Type 0} (f : ℕ → A) where
  pub length_ones : (n : ℕ) → length (in_turn n (λ i. f i ∷ [])) ≡ n
  unfolding in_turn
  length_ones zero = refl
  length_ones (suc n) = omega (arith, length-append (in_turn n (λ i. f i ∷ [])) (f n ∷ []), length_ones n)

  pub map_ones : {B : Type 0} (g : A → B) (n : ℕ) → map g (in_turn n (λ i. f i ∷ [])) ≡ in_turn n (λ i. g (f i) ∷ [])
  unfolding in_turn
  map_ones g zero = refl
  map_ones {B} g (suc n) =
      map-append g (in_turn n (λ i. f i ∷ [])) (f n ∷ []) ∙ ap (λ (l : List B). l ++ (g (f n) ∷ [])) (map_ones g n)

-- a list is its elements in turn
module _ {A : Type 0} (l : List A) (d : A) where
  first_ones : (n : ℕ) → n ≤ length l → in_turn n (λ i. get_or l i d ∷ []) ≡ take n l
  unfolding in_turn
  first_ones zero h = refl
  first_ones (suc n) h = ap (λ (s : List A). s ++ (get_or l n d ∷ [])) (first_ones n (omega arith)) ∙ sym (take-suc l n d h)

  pub list_of_ones : in_turn (length l) (λ i. get_or l i d ∷ []) ≡ l
  list_of_ones = first_ones (length l) (le_refl (length l)) ∙ take-length l
