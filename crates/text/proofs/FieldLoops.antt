-- The loop that reads digits: what is left to read from the byte reached is what was to be read at first, byte by byte.
-- Assumes nothing.
use mathlib.Core.Path.{◌≡◌, sym, ap, ◌∙◌, subst}
use mathlib.Core.Bool.{true, false}
use mathlib.Core.List.{List, ◌∷◌}
use Prim.Native.Nat.{ℕ, zero, suc, ◌+◌, ◌-◌, ◌*◌, ◌^◌, ◌≤◌, ◌<◌}
use native.Mathlib.Nat.{le_trans, mul-le-mul_left, mul-le-mul_right, mul_assoc, pow-suc, pow-succ'}
use native.Mathlib.Decide.{ℕ_discrete}
use native.Mathlib.Numerals.{add-one}
use native.Mathlib.Omega.{arith}
use lib.ListN.{length, get_or, drop, drop_of_length-le}
use lib.Seq.{drop-cons}
use Rattle.text.specs.Bytes.{digit, is_digit}
use Rattle.text.proofs.DigitLaws.{digit_bounds}
use Rattle.text.specs.Fields.{Field, holds, broken, digits_at, digits_after}
use Rattle.text.proofs.FieldLaws.{digits_stop, digits_over, digits_other, digits_next, digits_none}
use Rattle.text.proofs.FieldLaws.{none_after_zero, three_after_another}

-- From byte i on, with n read, what is left of reading digits comes to the whole; no number of five digits comes of it.
pub record DigitsLeft (whole : Field) (bytes : List ℕ) (stop most n i : ℕ) : Type 0 where
  pub left : whole ≡ digits_at stop (most - i) n (drop i bytes)
  pub short : (n + 1) * 10 ^ (most - i) ≤ 10000
  pub passed : i ≤ most

pub digits_begin :
    (bytes : List ℕ) (stop most first : ℕ) → (first + 1) * 10 ^ most ≤ 10000 → DigitsLeft (digits_at stop most first bytes) bytes stop most first 0
digits_begin bytes stop most first h = let all : most - 0 ≡ most = omega arith in record { left = rw all; short = rw all h; passed = omega arith }

pub tens : (k : ℕ) → 1 ≤ 10 ^ k
tens zero = omega arith
tens (suc k) = omega (arith, tens k, pow-suc 10 k)

-- A number with a digit more, and with one digit fewer to come, stays below what it could come to before.
pub digit_bounded : (n d more : ℕ) → d ≤ 9 → (10 * n + d + 1) * 10 ^ more ≤ (n + 1) * 10 ^ suc more
digit_bounded n d more h =
    let wider : 10 * n + d + 1 ≤ (n + 1) * 10 = omega arith in
    rw (pow-succ' 10 more, ← mul_assoc) (mul-le-mul_right (10 ^ more) wider)

module _ {whole : Field} {bytes : List ℕ} {stop most n i : ℕ} (c : DigitsLeft whole bytes stop most n i) where
  -- Where a digit may follow, ten times the number fits, with the digit and without.
  pub room_for_a_digit : (i ≡ most → ⊥) → n < 1000
  room_for_a_digit z =
      let one : 10 ^ (most - i) ≡ 10 * 10 ^ (most - (i + 1)) = ap (◌^◌ 10) (one_fewer z) ∙ pow-succ' 10 (most - (i + 1)) in
      let wider : 10 ≤ 10 ^ (most - i) = omega (arith, tens (most - (i + 1))) in
      omega (arith, mul-le-mul_left (n + 1) wider, c.short)
    where
      one_fewer : (i ≡ most → ⊥) → most - i ≡ suc (most - (i + 1))
      one_fewer z = omega (arith, c.passed)

  pub digits_end : length bytes ≤ i → broken ≡ whole
  digits_end l = sym (c.left ∙ (rw (drop_of_length-le bytes l) (digits_none stop (most - i) n)))

  module _ (l : i < length bytes) where
    pub digits_stopped : get_or bytes i 0 ≡ stop → holds n (drop (i + 1) bytes) ≡ whole
    digits_stopped e =
        sym (c.left ∙ (rw (drop-cons bytes i 0 l, add-one i) (digits_stop stop (most - i) n (get_or bytes i 0) (drop (suc i) bytes) e)))

    pub too_many_digits : (get_or bytes i 0 ≡ stop → ⊥) → i ≡ most → broken ≡ whole
    too_many_digits d e =
        let none : most - i ≡ 0 = omega arith in
        sym (c.left ∙ (rw (drop-cons bytes i 0 l, none) (digits_over stop n (get_or bytes i 0) (drop (suc i) bytes) d)))

    pub no_digit : (get_or bytes i 0 ≡ stop → ⊥) → is_digit (get_or bytes i 0) ≡ false → broken ≡ whole
    no_digit d e =
        sym (c.left ∙ (rw (drop-cons bytes i 0 l) (digits_other stop (most - i) n (get_or bytes i 0) (drop (suc i) bytes) d e)))

    pub one_digit_more :
        (get_or bytes i 0 ≡ stop → ⊥) → (i ≡ most → ⊥) → is_digit (get_or bytes i 0) ≡ true
        → DigitsLeft whole bytes stop most (10 * n + (get_or bytes i 0 - digit 0)) (i + 1)
    one_digit_more d z e =
        record {
          left =
              c.left
              ∙ (rw (drop-cons bytes i 0 l, add-one i)
              (ap (λ (k : ℕ). digits_at stop k n (get_or bytes i 0 ∷ drop (suc i) bytes)) one_fewer
              ∙ digits_next stop (most - suc i) n (get_or bytes i 0) (drop (suc i) bytes) d e));
          short =
              rw (add-one i)
              (le_trans
              (digit_bounded n (get_or bytes i 0 - digit 0) (most - suc i) (omega (arith, digit_bounds (get_or bytes i 0) e)))
              (subst (λ (k : ℕ). (n + 1) * 10 ^ k ≤ 10000) one_fewer c.short));
          passed = omega (arith, c.passed);
        }
      where
        one_fewer : most - i ≡ suc (most - suc i)
        one_fewer = omega (arith, c.passed)

-- A first digit leaves at most three to follow, so that the number stays short.
pub first_digit_short : (b more : ℕ) → is_digit b ≡ true → more ≡ digits_after b → (b - digit 0 + 1) * 10 ^ more ≤ 10000
first_digit_short b more d e = by_zero (ℕ_discrete b (digit 0))
  where
    by_zero : Dec (b ≡ digit 0) → (b - digit 0 + 1) * 10 ^ more ≤ 10000
    by_zero (yes z) = rw (e ∙ none_after_zero b z) (omega (arith, digit_bounds b d))
    by_zero (no z) = rw (e ∙ three_after_another b z) (omega (arith, digit_bounds b d))
