-- The number of pairs is the ones of each word with the bits below the label's own masked out: a masked bit is the bit times the test that
-- it stands high enough.
-- Assumes nothing.
use mathlib.Core.Path.{◌≡◌, refl, sym, ap, ap₂, ◌∙◌}
use mathlib.Core.Bool.{Bool, true, false}
use mathlib.Core.List.{List}
use Prim.Native.Nat.{ℕ, zero, suc, ◌+◌, ◌-◌, ◌*◌, ◌/◌, ◌%◌, ◌^◌, ◌≤◌, ◌<◌, min}
use native.Mathlib.Nat.{zero-mul, one-mul, mul-one, mul-suc, mul_comm, mul_assoc, pow-suc, mul-div_cancel, mul-mod_left, sub-zero, suc-sub-suc}
use native.Mathlib.Nat.{min-eq_left, min-zero, le_of_suc-le-suc, not-suc-le-zero}
use native.Mathlib.Decide.{dec_le}
use native.Mathlib.Omega.{arith}
use lib.Bits.{bit_and, and_lt, and_zero_l}
use lib.Count.{ones, ones-le}
use lib.Dec.{leb, lit<, leb-zero, leb-suc-zero, leb-suc-suc}
use lib.ListN.{length, get_or, drop, get_or-eq_default}
use lib.Pow.{high_ones, pow_pos}
use lib.Seq.{get_or-take, get_or-drop}
use borrow.Author.Tests.{le-leb, lt-leb}
use Rattle.numbers.specs.Sizes.{ours, word_bits, label_ceiling}
use Rattle.labels.specs.Words.{bit, Words}
use Rattle.numbers.specs.General.{one_if, sum_below}
use Rattle.labels.specs.Sets.{member}
use Rattle.matrix.specs.Matrix.{partners, marked, pairs_at_or_above}
use Rattle.labels.proofs.BitLaws.{bit_lt, bit_first, bit_next, bit_of_and}
use Rattle.labels.proofs.ChangedLaws.{words_take, words_drop}
use Rattle.numbers.proofs.SumLaws.{sum_alike, sum_split, sum_bounded}
use Rattle.labels.proofs.OnesLaws.{ones_are_bits}
use Rattle.labels.proofs.SetLaws.{member_at}

odd_ones : (j : ℕ) → 2 ^ suc j - 1 ≡ (2 ^ j - 1) * 2 + 1
odd_ones j = omega (arith, pow-suc 2 j, pow_pos j)

bit_of_ones : (j b : ℕ) → b < j → bit (2 ^ j - 1) b ≡ 1
bit_of_ones zero b h = absurd (not-suc-le-zero h)
bit_of_ones (suc j) zero h = bit_first (2 ^ suc j - 1) ∙ ap (λ (x : ℕ). x % 2) (odd_ones j) ∙ omega arith
bit_of_ones (suc j) (suc b) h =
    bit_next (2 ^ suc j - 1) b
    ∙ ap (λ (x : ℕ). bit x b) (ap (λ (x : ℕ). x / 2) (odd_ones j) ∙ omega arith)
    ∙ bit_of_ones j b (le_of_suc-le-suc h)

twice_shifted : (y k : ℕ) → y * 2 ^ suc k ≡ y * 2 ^ k * 2
twice_shifted y k = ap (λ (x : ℕ). y * x) (pow-suc 2 k) ∙ sym (mul_assoc y (2 ^ k) 2)

-- a shift by k moves the bits up and leaves none below k
bit_of_shifted : (y k b : ℕ) → bit (y * 2 ^ k) b ≡ one_if (leb k b) * bit y (b - k)
bit_of_shifted y zero b =
    ap₂ bit (mul-one y) (sym (sub-zero b))
    ∙ sym (ap (λ (t : Bool). one_if t * bit y (b - zero)) (leb-zero b) ∙ one-mul (bit y (b - zero)))
bit_of_shifted y (suc k) zero =
    bit_first (y * 2 ^ suc k)
    ∙ ap (λ (x : ℕ). x % 2) (twice_shifted y k)
    ∙ mul-mod_left (y * 2 ^ k) 2
    ∙ sym (ap (λ (t : Bool). one_if t * bit y (zero - suc k)) (leb-suc-zero k) ∙ zero-mul (bit y (zero - suc k)))
bit_of_shifted y (suc k) (suc b) =
    bit_next (y * 2 ^ suc k) b
    ∙ ap (λ (x : ℕ). bit x b) (ap (λ (x : ℕ). x / 2) (twice_shifted y k) ∙ mul-div_cancel (y * 2 ^ k) (lit< tt))
    ∙ bit_of_shifted y k b
    ∙ ap₂ (λ (t : Bool) (d : ℕ). one_if t * bit y d) (sym (leb-suc-suc k b)) (sym (suc-sub-suc b k))

-- the mask of a word's bits from k on
abbrev pub high_mask : ℕ → ℕ
high_mask k = 2 ^ word_bits - 2 ^ k

bit_of_mask : (k b : ℕ) → k ≤ word_bits → b < word_bits → bit (high_mask k) b ≡ one_if (leb k b)
bit_of_mask k b h l =
    ap (λ (x : ℕ). bit x b) (ap (λ (n : ℕ). 2 ^ n - 2 ^ k) whole ∙ high_ones (word_bits - k) k)
    ∙ bit_of_shifted (2 ^ (word_bits - k) - 1) k b
    ∙ by_order (dec_le k b)
  where
    whole : word_bits ≡ word_bits - k + k
    whole = omega arith

    by_order : Dec (k ≤ b) → one_if (leb k b) * bit (2 ^ (word_bits - k) - 1) (b - k) ≡ one_if (leb k b)
    by_order (yes p) =
        ap (λ (x : ℕ). one_if (leb k b) * x) (bit_of_ones (word_bits - k) (b - k) (omega arith)) ∙ mul-one (one_if (leb k b))
    by_order (no p) =
        let low : leb k b ≡ false = lt-leb k b (omega arith) in
        ap (λ (t : Bool). one_if t * bit (2 ^ (word_bits - k) - 1) (b - k)) low
        ∙ zero-mul (bit (2 ^ (word_bits - k) - 1) (b - k))
        ∙ sym (ap one_if low)

min_is_times : (t : Bool) (x : ℕ) → x < 2 → min x (one_if t) ≡ one_if t * x
min_is_times true x h = min-eq_left (le_of_suc-le-suc h) ∙ sym (one-mul x)
min_is_times false x h = min-zero x ∙ sym (zero-mul x)

pub ones_masked :
    (x k : ℕ) → x < 2 ^ word_bits → k ≤ word_bits → ones (bit_and x (high_mask k)) ≡ sum_below word_bits (λ b. one_if (leb k b) * bit x b)
ones_masked x k h l =
    ones_are_bits word_bits (bit_and x (high_mask k)) (and_lt word_bits x (high_mask k) h (omega (arith, pow_pos k)))
    ∙ sum_alike word_bits (bit (bit_and x (high_mask k))) (λ b. one_if (leb k b) * bit x b)
    (λ b p. bit_of_and x (high_mask k) b ∙ ap (λ (y : ℕ). min (bit x b) y) (bit_of_mask k b l p) ∙ min_is_times (leb k b) (bit x b) (bit_lt x b))

-- word q with the labels below i masked out: its first i - 64 * q bits, all of them where that is more than it has
abbrev pub from_label : ℕ → ℕ → ℕ → ℕ
from_label i q x = bit_and x (high_mask (min word_bits (i - word_bits * q)))

same_test : (i q b : ℕ) → b < word_bits → leb (min word_bits (i - word_bits * q)) b ≡ leb i (word_bits * q + b)
same_test i q b h = by_order (dec_le i (word_bits * q + b))
  where
    by_order : Dec (i ≤ word_bits * q + b) → leb (min word_bits (i - word_bits * q)) b ≡ leb i (word_bits * q + b)
    by_order (yes p) = le-leb (min word_bits (i - word_bits * q)) b (omega arith) ∙ sym (le-leb i (word_bits * q + b) p)
    by_order (no p) =
        lt-leb (min word_bits (i - word_bits * q)) b (omega arith) ∙ sym (lt-leb i (word_bits * q + b) (omega arith))

-- the members of a set from label i on, word by word
pub members_from :
    (w : ℕ) (s : List ℕ) (i : ℕ) → Words s
    → sum_below (label_ceiling w) (λ j. one_if (leb i j) * member s j) ≡ sum_below w (λ q. ones (from_label i q (get_or s q 0)))
unfolding sum_below
members_from zero s i ws = refl
members_from (suc w) s i ws =
    ap (λ (n : ℕ). sum_below n f) (mul-suc word_bits w)
    ∙ sum_split (word_bits * w) word_bits f
    ∙ ap₂ ◌+◌ (members_from w s i ws)
    (sum_alike word_bits (λ b. f (word_bits * w + b)) (λ b. one_if (leb k b) * bit x b)
    (λ b h. ap₂ (λ (t : Bool) (y : ℕ). one_if t * y) (sym (same_test i w b h))
    (ap (λ (n : ℕ). member s (n + b)) (mul_comm word_bits w) ∙ member_at s w b h))
    ∙ sym (ones_masked x k (ws w) (omega arith)))
  where
    f : ℕ → ℕ
    f j = one_if (leb i j) * member s j

    x : ℕ
    x = get_or s w 0

    k : ℕ
    k = min word_bits (i - word_bits * w)

-- the count of the pairs at or above the diagonal, word by word
pub pairs_by_words :
    (w : ℕ) (m : List ℕ) → Words m
    → pairs_at_or_above w m ≡ sum_below (label_ceiling w) (λ i. sum_below w (λ q. ones (from_label i q (get_or m (i * w + q) 0))))
unfolding pairs_at_or_above marked
pairs_by_words w m wm =
    sum_alike (label_ceiling w) _ _
    (λ i h. members_from w (partners w m i) i (words_take w (drop (i * w) m) (words_drop (i * w) m wm))
    ∙ sum_alike w _ _ (λ q l. ap (λ (x : ℕ). ones (from_label i q x)) (get_or_partners i q l)))
  where
    get_or_partners : (i q : ℕ) → q < w → get_or (partners w m i) q 0 ≡ get_or m (i * w + q) 0
    get_or_partners i q l = get_or-take w (drop (i * w) m) q 0 l ∙ get_or-drop (i * w) m q 0

-- the pairs of the first i labels of a matrix of one word a label
unfoldable pub pairs_below : List ℕ → ℕ → ℕ
pairs_below m i = sum_below i (λ k. ones (bit_and (get_or m k 0) (high_mask k)))

pub row_few : (m : List ℕ) → Words m → (k : ℕ) → k < label_ceiling ours.words → ones (bit_and (get_or m k 0) (high_mask k)) ≤ word_bits
row_few m wm k h = ones-le word_bits _ (and_lt word_bits (get_or m k 0) (high_mask k) (wm k) (omega (arith, pow_pos k)))

pub pairs_few : (m : List ℕ) → Words m → (i : ℕ) → i ≤ label_ceiling ours.words → pairs_below m i ≤ i * word_bits
unfolding pairs_below
pairs_few m wm i h = sum_bounded i word_bits _ (λ k l. row_few m wm k (omega arith))

-- words that the matrix lacks mark no pair
pub pairs_held : (m : List ℕ) (i : ℕ) {n : ℕ} → n ≡ min i (length m) → pairs_below m n ≡ pairs_below m i
unfolding pairs_below
pairs_held m i {n} e = by_length (dec_le i (length m))
  where
    count : ℕ → ℕ
    count k = ones (bit_and (get_or m k 0) (high_mask k))

    none : (k : ℕ) → length m ≤ k → count k ≤ 0
    none k h =
        let empty : bit_and (get_or m k 0) (high_mask k) ≡ 0 = ap (λ (x : ℕ). bit_and x (high_mask k)) (get_or-eq_default m 0 h) ∙ and_zero_l (high_mask k) in
        rw empty (ones-le 0 0 (lit< tt))

    by_length : Dec (i ≤ length m) → sum_below n count ≡ sum_below i count
    by_length (yes h) = let same : n ≡ i = omega arith in ap (λ (k : ℕ). sum_below k count) same
    by_length (no h) =
        let all : length m + (i - length m) ≡ i = omega arith in
        let same : n ≡ length m = omega arith in
        let rest : sum_below (i - length m) (λ k. count (length m + k)) ≤ (i - length m) * 0 =
        sum_bounded (i - length m) 0 (λ k. count (length m + k)) (λ k l. none (length m + k) (omega arith)) in
        omega (arith, ap (λ (k : ℕ). sum_below k count) same, ap (λ (k : ℕ). sum_below k count) all, sum_split (length m) (i - length m) count)
