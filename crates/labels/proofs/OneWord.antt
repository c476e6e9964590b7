-- A set of our size in the code's own terms: it is one word x, and label l is bit l of it.
-- Assumes nothing.
use mathlib.Core.Path.{◌≡◌, refl, sym, ap, ap₂, ◌∙◌}
use mathlib.Core.Bool.{not, false}
use mathlib.Core.List.{[], ◌∷◌}
use Prim.Native.Nat.{ℕ, zero, suc, ◌+◌, ◌-◌, ◌*◌, ◌/◌, ◌%◌, ◌^◌, ◌≤◌, ◌<◌}
use native.Mathlib.Nat.{div-eq_of_lt, mod-eq_of_lt, zero-mul, one-mul, pow-suc}
use native.Mathlib.Decide.{dec_lt}
use native.Mathlib.Omega.{arith}
use lib.Bits.{bit_or, bit_and, and_high, and_zero_r}
use lib.Dec.{eqb}
use lib.ListN.{get_or, set, get_or-eq_default}
use lib.Pow.{pow_pos}
use borrow.Author.Tests.{ne_eqb}
use Rattle.numbers.specs.Sizes.{ours, word_bits, label_ceiling}
use Rattle.labels.specs.Words.{bit, changed}
use Rattle.labels.specs.Sets.{member, none, single, joined, union}
use Rattle.labels.proofs.BitLaws.{bit_lt, bit_of_zero}
use Rattle.labels.proofs.SetLaws.{single_beyond}

pub member_one : (x l : ℕ) → l < label_ceiling ours.words → member (x ∷ []) l ≡ bit x l
unfolding member
member_one x l h = ap₂ (λ (q r : ℕ). bit (get_or (x ∷ []) q 0) r) (div-eq_of_lt h) (mod-eq_of_lt h)

pub member_one_beyond : (x l : ℕ) → label_ceiling ours.words ≤ l → member (x ∷ []) l ≡ 0
unfolding member
member_one_beyond x l h =
    ap (λ (y : ℕ). bit y (l % word_bits)) (get_or-eq_default (x ∷ []) 0 {n = l / word_bits} (omega arith)) ∙ bit_of_zero (l % word_bits)

-- so it is not found there, by whatever number it goes
pub none_beyond : (x l n : ℕ) → n ≡ l → label_ceiling ours.words ≤ n → false ≡ eqb (member (x ∷ []) l) 1
none_beyond x l n e h = sym (ap (λ (y : ℕ). eqb y 1) (ap (λ (k : ℕ). member (x ∷ []) k) (sym e) ∙ member_one_beyond x n h))

pub single_one : (l : ℕ) → l < label_ceiling ours.words → single ours.words l ≡ 2 ^ l ∷ []
unfolding single
single_one l h = ap₂ (λ (q r : ℕ). set (none ours.words) q (2 ^ r)) (div-eq_of_lt h) (mod-eq_of_lt h)

pub union_one : (a b : ℕ) → union ours.words (a ∷ []) (b ∷ []) ≡ bit_or a b ∷ []
unfolding joined changed
union_one a b = refl

-- the mask of label l leaves its bit
mask_leaves_bit : (x l : ℕ) → bit_and x (2 ^ l) ≡ bit x l * 2 ^ l
unfolding bit
mask_leaves_bit x l = ap (bit_and x) twice ∙ and_high x 1 l
  where
    twice : 2 ^ l ≡ 2 ^ (1 + l) - 2 ^ l
    twice = omega (arith, ap (λ (n : ℕ). 2 ^ n) (native.Mathlib.Numerals.one-add l) ∙ pow-suc 2 l)

-- the test by a mask is the test of membership
pub masked_test : (x l : ℕ) → not (eqb (bit_and x (2 ^ l)) 0) ≡ eqb (bit x l) 1
masked_test x l = ap (λ (y : ℕ). not (eqb y 0)) (mask_leaves_bit x l) ∙ by_bit (bit x l) (bit_lt x l)
  where
    by_bit : (t : ℕ) → t < 2 → not (eqb (t * 2 ^ l) 0) ≡ eqb t 1
    by_bit zero h = ap (λ (y : ℕ). not (eqb y 0)) (zero-mul (2 ^ l))
    by_bit (suc zero) h =
        ap (λ (y : ℕ). not (eqb y 0)) (one-mul (2 ^ l))
        ∙ ap not (ne_eqb (2 ^ l) 0 (λ e. omega (arith, pow_pos l)))
    by_bit (suc (suc t)) h = absurd (omega arith)

-- a word and the set of a member alone have a bit in common exactly if the member is in the word
pub in_alone : (x a l : ℕ) → a ∷ [] ≡ single ours.words l → not (eqb (bit_and x a) 0) ≡ eqb (member (x ∷ []) l) 1
in_alone x a l e = by_size (dec_lt l word_bits)
  where
    first : {c : ℕ} → a ∷ [] ≡ c ∷ [] → a ≡ c
    first p = cc

    by_size : Dec (l < word_bits) → not (eqb (bit_and x a) 0) ≡ eqb (member (x ∷ []) l) 1
    by_size (yes h) =
        ap (λ (y : ℕ). not (eqb (bit_and x y) 0)) (first (e ∙ single_one l h))
        ∙ masked_test x l
        ∙ sym (ap (λ (y : ℕ). eqb y 1) (member_one x l h))
    by_size (no h) =
        ap (λ (y : ℕ). not (eqb (bit_and x y) 0)) (first (e ∙ single_beyond ours.words l (omega arith)))
        ∙ ap (λ (y : ℕ). not (eqb y 0)) (and_zero_r x)
        ∙ sym (ap (λ (y : ℕ). eqb y 1) (member_one_beyond x l (omega arith)))
