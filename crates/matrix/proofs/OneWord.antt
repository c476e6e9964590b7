-- A matrix of our size in the code's own terms: a set is one word, and a word's label is its own number.
-- Assumes nothing.
use mathlib.Core.Path.{◌≡◌, sym, ap, ap₂, ◌∙◌, subst}
use mathlib.Core.List.{List, [], ◌∷◌}
use Prim.Native.Nat.{ℕ, suc, ◌+◌, ◌-◌, ◌*◌, ◌%◌, ◌^◌, ◌≤◌, ◌<◌, min}
use native.Mathlib.Nat.{div-eq_of_lt, mod-eq_of_lt, div-one, mod-one, zero-add, zero-mul, mul-zero, mul-suc, mul_comm, le_of_lt}
use native.Mathlib.Omega.{arith}
use lib.Bits.{bit_or, bit_and, or_zero_r}
use lib.Count.{ones}
use lib.ListN.{length, get_or}
use lib.Pow.{low, pow_mono, pow_pos, suc_ones}
use Rattle.numbers.specs.Sizes.{ours, word_bits, label_ceiling, matrix_words}
use Rattle.labels.specs.Words.{bit, Words, changed}
use Rattle.numbers.specs.General.{sum_below}
use Rattle.labels.specs.Sets.{member}
use Rattle.matrix.specs.Matrix.{marked, crossed, pairs_at_or_above}
use Rattle.labels.proofs.ChangedLaws.{changed_alike, changed_same, changed_short}
use Rattle.labels.proofs.SetLaws.{member_none}
use Rattle.numbers.proofs.SumLaws.{sum_alike}
use Rattle.matrix.proofs.MatrixLaws.{marked_at}
use Rattle.matrix.proofs.CountLaws.{high_mask, from_label, pairs_by_words}

-- the pair (i,j) is bit j of word i
pub marked_one : (m : List ℕ) (i j : ℕ) → j < label_ceiling ours.words → marked ours.words m i j ≡ bit (get_or m i 0) j
marked_one m i j l =
    marked_at ours.words m i j l
    ∙ ap₂ (λ (a b : ℕ). bit (get_or m a 0) b) (ap (λ (n : ℕ). i * ours.words + n) (div-eq_of_lt l) ∙ omega arith) (mod-eq_of_lt l)

other_way_round : (p t : ℕ) → t ≤ p → p * suc t ≡ t * suc p + (suc p - suc t)
other_way_round p t h = omega (arith, mul-suc p t, mul-suc t p, mul_comm p t)

-- all ones shifted up by i are the ones from bit i on
pub shifted_mask : (i : ℕ) → i < label_ceiling ours.words → (2 ^ word_bits - 1) * 2 ^ i % 2 ^ word_bits ≡ high_mask i
shifted_mask i h =
    ap (λ (x : ℕ). x % 2 ^ word_bits) split ∙ low (2 ^ i - 1) word_bits (omega (arith, pow_pos i))
  where
    bound : 2 ^ i ≤ 2 ^ word_bits
    bound = pow_mono (le_of_lt h)

    split : (2 ^ word_bits - 1) * 2 ^ i ≡ (2 ^ i - 1) * 2 ^ word_bits + high_mask i
    split =
        subst (λ (t : ℕ). (2 ^ word_bits - 1) * t ≡ (2 ^ i - 1) * 2 ^ word_bits + (2 ^ word_bits - t)) (suc_ones i)
        (other_way_round (2 ^ word_bits - 1) (2 ^ i - 1) (omega (arith, bound)))

-- what crossing does to word i
abbrev pub crossed_word : ℕ → ℕ → ℕ → ℕ → ℕ
crossed_word a b i x = bit_or x (bit_or (member (a ∷ []) i * b) (member (b ∷ []) i * a))

pub crossed_one : (a b : ℕ) (m : List ℕ) → crossed ours.words (a ∷ []) (b ∷ []) m ≡ changed (matrix_words ours.words) (crossed_word a b) m
unfolding crossed
crossed_one a b m =
    changed_alike (matrix_words ours.words) _ (crossed_word a b) m
    (λ k h l.
    ap₂ (λ (q r : ℕ). bit_or (get_or m k 0) (bit_or (member (a ∷ []) q * get_or (b ∷ []) r 0) (member (b ∷ []) q * get_or (a ∷ []) r 0))) (div-one k) (mod-one k))

-- crossing with the empty set marks nothing
crossed_with_none : (m : List ℕ) (f : ℕ → ℕ → ℕ) → ((k x : ℕ) → f k x ≡ 0) → changed (matrix_words ours.words) (λ k x. bit_or x (f k x)) m ≡ m
crossed_with_none m f none =
    changed_alike (matrix_words ours.words) _ (λ k x. x) m (λ k h l. ap (bit_or (get_or m k 0)) (none k (get_or m k 0)) ∙ or_zero_r (get_or m k 0))
    ∙ changed_same (matrix_words ours.words) m

pub crossed_none_left : (a b : ℕ) (m : List ℕ) → a ≡ 0 → crossed ours.words (a ∷ []) (b ∷ []) m ≡ m
crossed_none_left a b m e =
    crossed_one a b m
    ∙ crossed_with_none m (λ k x. bit_or (member (a ∷ []) k * b) (member (b ∷ []) k * a))
    (λ k x. subst (λ (n : ℕ). bit_or (member (n ∷ []) k * b) (member (b ∷ []) k * n) ≡ 0) (sym e)
    (ap₂ bit_or (ap (λ (n : ℕ). n * b) (member_none 1 k) ∙ zero-mul b) (mul-zero (member (b ∷ []) k)) ∙ or_zero_r 0))

pub crossed_none_right : (a b : ℕ) (m : List ℕ) → b ≡ 0 → crossed ours.words (a ∷ []) (b ∷ []) m ≡ m
crossed_none_right a b m e =
    crossed_one a b m
    ∙ crossed_with_none m (λ k x. bit_or (member (a ∷ []) k * b) (member (b ∷ []) k * a))
    (λ k x. subst (λ (n : ℕ). bit_or (member (a ∷ []) k * n) (member (n ∷ []) k * a) ≡ 0) (sym e)
    (ap₂ bit_or (mul-zero (member (a ∷ []) k)) (ap (λ (n : ℕ). n * a) (member_none 1 k) ∙ zero-mul a) ∙ or_zero_r 0))

-- what is changed of the words that a slice holds is changed of the matrix
pub held_words :
    (f : ℕ → ℕ → ℕ) (s : List ℕ) {n : ℕ} → n ≡ min (matrix_words ours.words) (length s) → changed n f s ≡ changed (matrix_words ours.words) f s
held_words f s e = ap (λ (k : ℕ). changed k f s) e ∙ changed_short (matrix_words ours.words) f s

pub pairs_one : (m : List ℕ) → Words m → pairs_at_or_above ours.words m ≡ sum_below (label_ceiling ours.words) (λ i. ones (bit_and (get_or m i 0) (high_mask i)))
unfolding sum_below
pairs_one m wm =
    pairs_by_words 1 m wm
    ∙ sum_alike (label_ceiling ours.words) _ (λ i. ones (bit_and (get_or m i 0) (high_mask i)))
    (λ i h. zero-add (ones (from_label i 0 (get_or m (i * 1 + 0) 0)))
    ∙ ap₂ (λ (k n : ℕ). ones (bit_and (get_or m n 0) (high_mask k)))
    (omega arith)
    (omega arith))
