-- Members of a union, of a single and of none, and that members make the set: word l / 64 and bit l mod 64, over the number of words.
-- Assumes nothing.
use mathlib.Core.Logic.{◌≢◌}
use mathlib.Core.Path.{◌≡◌, refl, sym, ap, ap₂, ◌∙◌, subst}
use mathlib.Core.List.{List, [], ◌∷◌}
use Prim.Native.Nat.{ℕ, zero, suc, ◌+◌, ◌*◌, ◌/◌, ◌%◌, ◌^◌, ◌≤◌, ◌<◌, max}
use native.Mathlib.Nat.{mod-lt}
use native.Mathlib.Decide.{ℕ_discrete}
use native.Mathlib.Omega.{arith}
use lib.Bits.{bit_or, or_lt}
use lib.Dec.{eqb, lit<}
use lib.ListN.{length, get_or, set, length-replicate, get_or-eq_default}
use lib.Pow.{pow-lt}
use lib.Seq.{ext_get_or, get_or-set_same, get_or-set_other}
use borrow.Author.Tests.{eq-eqb, ne_eqb}
use Rattle.numbers.specs.Sizes.{word_bits, label_ceiling}
use Rattle.labels.specs.Words.{bit, Words}
use Rattle.numbers.specs.General.{one_if}
use Rattle.labels.specs.Sets.{member, none, single, joined, union}
use Rattle.labels.proofs.BitLaws.{bit_lt, bit_of_zero, bit_of_or, bit_of_power, bits_make_the_word}
use Rattle.labels.proofs.ChangedLaws.{length_changed, changed_below, words_changed}

pub member_lt : (s : List ℕ) (l : ℕ) → member s l < 2
unfolding member
member_lt s l = bit_lt (get_or s (l / word_bits) 0) (l % word_bits)

-- label k * 64 + i is bit i of word k
pub member_at : (s : List ℕ) (k i : ℕ) → i < word_bits → member s (k * word_bits + i) ≡ bit (get_or s k 0) i
unfolding member
member_at s k i h = ap₂ (λ (q r : ℕ). bit (get_or s q 0) r) (omega arith) (omega arith)

pub get_or_none : (w k : ℕ) → get_or (none w) k 0 ≡ 0
get_or_none zero k = refl
get_or_none (suc w) zero = refl
get_or_none (suc w) (suc k) = get_or_none w k

pub member_none : (w l : ℕ) → member (none w) l ≡ 0
unfolding member
member_none w l = ap (λ (x : ℕ). bit x (l % word_bits)) (get_or_none w (l / word_bits)) ∙ bit_of_zero (l % word_bits)

-- no label stands past the last word
pub member_beyond : (s : List ℕ) (l : ℕ) → label_ceiling (length s) ≤ l → member s l ≡ 0
unfolding member
member_beyond s l h =
    ap (λ (x : ℕ). bit x (l % word_bits)) (get_or-eq_default s 0 {n = l / word_bits} (omega arith)) ∙ bit_of_zero (l % word_bits)

pub member_joined :
    (n : ℕ) (a b : List ℕ) (l : ℕ) → l / word_bits < n → l / word_bits < length a → member (joined n a b) l ≡ max (member a l) (member b l)
unfolding member joined
member_joined n a b l h k =
    ap (λ (x : ℕ). bit x (l % word_bits)) (changed_below n (λ k x. bit_or x (get_or b k 0)) a (l / word_bits) h k)
    ∙ bit_of_or (get_or a (l / word_bits) 0) (get_or b (l / word_bits) 0) (l % word_bits)

pub member_union :
    (w : ℕ) (a b : List ℕ) (l : ℕ) → length a ≡ w → l < label_ceiling w → member (union w a b) l ≡ max (member a l) (member b l)
member_union w a b l e h = member_joined w a b l (omega arith) (omega arith)

pub union_monotone :
    (w : ℕ) (a b a' b' : List ℕ) (l : ℕ) → length a ≡ w → length a' ≡ w → l < label_ceiling w
    → member a l ≤ member a' l → member b l ≤ member b' l → member (union w a b) l ≤ member (union w a' b') l
union_monotone w a b a' b' l e e' h p q =
    let lower = member_union w a b l e h in
    let upper = member_union w a' b' l e' h in
    omega arith

pub length_joined : (n : ℕ) (a b : List ℕ) → length (joined n a b) ≡ length a
unfolding joined
length_joined n a b = length_changed n (λ k x. bit_or x (get_or b k 0)) a

pub words_joined : (n : ℕ) (a b : List ℕ) → Words a → Words b → Words (joined n a b)
unfolding joined
words_joined n a b wa wb = words_changed n (λ k x. bit_or x (get_or b k 0)) a (λ k x h. or_lt word_bits x (get_or b k 0) h (wb k)) wa

pub words_none : (w : ℕ) → Words (none w)
words_none w k = subst (λ (x : ℕ). x < 2 ^ word_bits) (sym (get_or_none w k)) (lit< tt)

pub length_single : (w l : ℕ) → length (single w l) ≡ w
unfolding single
length_single w l = lib.ListN.length-set (none w) (l / word_bits) (2 ^ (l % word_bits)) ∙ length-replicate w 0

words_set : (s : List ℕ) (i v : ℕ) → v < 2 ^ word_bits → Words s → Words (set s i v)
words_set [] i v h ws k = ws k
words_set (x ∷ s) zero v h ws zero = h
words_set (x ∷ s) zero v h ws (suc k) = ws (suc k)
words_set (x ∷ s) (suc i) v h ws zero = ws zero
words_set (x ∷ s) (suc i) v h ws (suc k) = words_set s i v h (λ j. ws (suc j)) k

pub words_single : (w l : ℕ) → Words (single w l)
unfolding single
words_single w l =
    words_set (none w) (l / word_bits) (2 ^ (l % word_bits)) (pow-lt (mod-lt l (lit< tt))) (words_none w)

same_word : (w l k : ℕ) → l < label_ceiling w → k / word_bits ≡ l / word_bits → member (single w l) k ≡ one_if (eqb (l % word_bits) (k % word_bits))
unfolding member single
same_word w l k h e =
    ap (λ (x : ℕ). bit x (k % word_bits))
    (ap (λ (q : ℕ). get_or (single w l) q 0) e
    ∙ get_or-set_same (none w) (l / word_bits) (2 ^ (l % word_bits)) 0 (subst (λ (n : ℕ). l / word_bits < n) (sym (length-replicate w 0)) (omega arith)))
    ∙ bit_of_power (l % word_bits) (k % word_bits)

other_word : (w l k : ℕ) → k / word_bits ≢ l / word_bits → member (single w l) k ≡ 0
unfolding member single
other_word w l k d =
    ap (λ (x : ℕ). bit x (k % word_bits))
    (get_or-set_other (none w) (l / word_bits) (k / word_bits) (2 ^ (l % word_bits)) 0 d ∙ get_or_none w (k / word_bits))
    ∙ bit_of_zero (k % word_bits)

pub member_single : (w l k : ℕ) → l < label_ceiling w → member (single w l) k ≡ one_if (eqb l k)
member_single w l k h = by_label (ℕ_discrete l k)
  where
    by_word : l ≢ k → Dec (k / word_bits ≡ l / word_bits) → member (single w l) k ≡ 0
    by_word d (yes e) = same_word w l k h e ∙ ap one_if (ne_eqb (l % word_bits) (k % word_bits) (λ r. d (omega arith)))
    by_word d (no e) = other_word w l k e

    by_label : Dec (l ≡ k) → member (single w l) k ≡ one_if (eqb l k)
    by_label (yes e) =
        same_word w l k h (omega arith)
        ∙ ap one_if (eq-eqb (l % word_bits) (k % word_bits) (omega arith))
        ∙ sym (ap one_if (eq-eqb l k e))
    by_label (no d) = by_word d (ℕ_discrete (k / word_bits) (l / word_bits)) ∙ sym (ap one_if (ne_eqb l k d))

-- a label that no set of w words holds is alone in the empty set
pub single_beyond : (w l : ℕ) → label_ceiling w ≤ l → single w l ≡ none w
unfolding single
single_beyond w l h =
    lib.Seq.set_out (none w) (l / word_bits) (2 ^ (l % word_bits))
    (subst (λ (n : ℕ). n ≤ l / word_bits) (sym (length-replicate w 0)) (omega arith))

-- two sets of the same number of words with the same members are equal
pub members_make_the_set :
    (a b : List ℕ) → length a ≡ length b → Words a → Words b → ((l : ℕ) → l < label_ceiling (length a) → member a l ≡ member b l) → a ≡ b
members_make_the_set a b e wa wb same =
    ext_get_or 0 a b e
    (λ k h. bits_make_the_word word_bits (get_or a k 0) (get_or b k 0) (wa k) (wb k)
    (λ i l. sym (member_at a k i l) ∙ same (k * word_bits + i) (omega arith) ∙ member_at b k i l))
