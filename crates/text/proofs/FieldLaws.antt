-- How a text and digits are read at the first byte: each case of the definitions once, by the tests that it makes.
-- Assumes nothing.
use mathlib.Core.Path.{◌≡◌, refl}
use mathlib.Core.Bool.{true, false}
use mathlib.Core.List.{List, [], ◌∷◌}
use Prim.Native.Nat.{ℕ, zero, suc, ◌+◌, ◌-◌, ◌*◌}
use borrow.Author.Tests.{eq-eqb, ne_eqb}
use Rattle.text.specs.Bytes.{digit, is_digit}
use Rattle.text.specs.Fields.{holds, broken, text_at, digits_at, digits_after, number_at}

pub text_same : (t b : ℕ) (text s : List ℕ) (n : ℕ) → b ≡ t → text_at (t ∷ text) n (b ∷ s) ≡ text_at text n s
unfolding text_at
text_same t b text s n e = rw (eq-eqb b t e, text_at)

pub text_other : (t b : ℕ) (text s : List ℕ) (n : ℕ) → (b ≡ t → ⊥) → text_at (t ∷ text) n (b ∷ s) ≡ broken
unfolding text_at
text_other t b text s n e = rw (ne_eqb b t e, text_at)

module _ (stop : ℕ) where
  pub digits_stop : (more n b : ℕ) (s : List ℕ) → b ≡ stop → digits_at stop more n (b ∷ s) ≡ holds n s
  unfolding digits_at
  digits_stop zero n b s e = rw (eq-eqb b stop e, digits_at)
  digits_stop (suc more) n b s e = rw (eq-eqb b stop e, digits_at)

  pub digits_over : (n b : ℕ) (s : List ℕ) → (b ≡ stop → ⊥) → digits_at stop 0 n (b ∷ s) ≡ broken
  unfolding digits_at
  digits_over n b s e = rw (ne_eqb b stop e, digits_at)

  pub digits_other : (more n b : ℕ) (s : List ℕ) → (b ≡ stop → ⊥) → is_digit b ≡ false → digits_at stop more n (b ∷ s) ≡ broken
  unfolding digits_at
  digits_other zero n b s e d = digits_over n b s e
  digits_other (suc more) n b s e d = rw (ne_eqb b stop e, d, digits_at)

  pub digits_next :
      (more n b : ℕ) (s : List ℕ) → (b ≡ stop → ⊥) → is_digit b ≡ true
      → digits_at stop (suc more) n (b ∷ s) ≡ digits_at stop more (10 * n + (b - digit 0)) s
  unfolding digits_at
  digits_next more n b s e d = rw (ne_eqb b stop e, d, digits_at)

  pub digits_none : (more n : ℕ) → digits_at stop more n [] ≡ broken
  unfolding digits_at
  digits_none zero n = refl
  digits_none (suc more) n = refl

pub number_first :
    (stop b : ℕ) (s : List ℕ) → is_digit b ≡ true → number_at stop (b ∷ s) ≡ digits_at stop (digits_after b) (b - digit 0) s
unfolding number_at
number_first stop b s d = rw (d, number_at)

pub number_other : (stop b : ℕ) (s : List ℕ) → is_digit b ≡ false → number_at stop (b ∷ s) ≡ broken
unfolding number_at
number_other stop b s d = rw (d, number_at)

pub none_after_zero : (b : ℕ) → b ≡ digit 0 → digits_after b ≡ 0
unfolding digits_after
none_after_zero b e = rw (eq-eqb b (digit 0) e, digits_after)

pub three_after_another : (b : ℕ) → (b ≡ digit 0 → ⊥) → digits_after b ≡ 3
unfolding digits_after
three_after_another b e = rw (ne_eqb b (digit 0) e, digits_after)
