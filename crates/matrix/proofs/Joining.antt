-- Partners are joined to the labels of a set one label at a time: when the lowest label's word is joined, what is left to be done is what the set
-- without that label does. And a crossing is to join both sets to the labels of both, and the other set to those of one alone.
-- Assumes nothing.
use Rattle.std.proofs.Common.{◌≡◌, ◌≢◌, ◌∷◌, [], List, ℕ, suc, zero, ◌-◌, ◌*◌, ◌^◌, ◌<◌, ◌≤◌, min, length, get_or, set, refl, sym, ap, ap₂, ◌∙◌, arith}
use Prim.Native.Nat.{suc-le-suc}
use native.Mathlib.Nat.{zero-mul, one-mul, not-suc-le-zero, le_of_suc-le-suc, zero-lt-suc}
use lib.Bits.{or_comm, or_zero_r}
use Rattle.std.specs.Int.Bits.{bit_or, bit_and}
use Rattle.std.specs.Int.{bit_at, bit_not, trailing_zeros, w64}
use Rattle.std.proofs.lemmas.Nat.{and_le_r}
use Rattle.std.proofs.lemmas.Nat.Bits.{bit_at-trailing_zeros, bit_at_and, bit_at_not}
use Rattle.numbers.specs.Sizes.{ours, matrix_words}
use Rattle.labels.specs.Words.{bit, changed}
use Rattle.labels.specs.Sets.{member}
use Rattle.labels.proofs.ChangedLaws.{changed_alike, changed_same}
use Rattle.labels.proofs.OneWord.{member_one}
use Rattle.labels.proofs.SetLaws.{member_lt, member_none}
use Rattle.matrix.specs.Matrix.{crossed}
use Rattle.matrix.specs.Inner.{joining}
use Rattle.matrix.proofs.Lowest.{less_lowest, without_lowest}
use Rattle.matrix.proofs.OneWord.{crossed_word, crossed_one}

-- the place of the lowest label
abbrev pub lowest_of : ℕ → ℕ
lowest_of x = trailing_zeros w64 x

member_as : (x k : ℕ) → k < 64 → member (x ∷ []) k ≡ bit_at x k
unfolding bit
member_as x k h = member_one x k h

-- One word is changed first, and the others with all.
changed_set :
    (n i v : ℕ) (f g : ℕ → ℕ → ℕ) (s : List ℕ) → i < n → i < length s → f i v ≡ g i (get_or s i 0)
    → ((k y : ℕ) → k < n → k ≢ i → f k y ≡ g k y) → changed n f (set s i v) ≡ changed n g s
unfolding changed
changed_set zero i v f g s h l e o = absurd (not-suc-le-zero h)
changed_set (suc n) i v f g [] h l e o = absurd (not-suc-le-zero l)
changed_set (suc n) zero v f g (x ∷ s) h l e o =
    ap₂ (λ (y : ℕ) (t : List ℕ). y ∷ t) e (changed_alike n (λ k. f (suc k)) (λ k. g (suc k)) s (λ k j m. o (suc k) _ (suc-le-suc j) (λ q. omega (arith, q))))
changed_set (suc n) (suc i) v f g (x ∷ s) h l e o =
    ap₂ (λ (y : ℕ) (t : List ℕ). y ∷ t) (o zero x (zero-lt-suc n) (λ q. omega (arith, q)))
    (changed_set n i v (λ k. f (suc k)) (λ k. g (suc k)) s (le_of_suc-le-suc h) (le_of_suc-le-suc l) e
    (λ k y j d. o (suc k) y (suc-le-suc j) (λ q. d (omega (arith, q)))))

pub fewer : (x : ℕ) → 0 < x → less_lowest x < x
fewer x some = omega (arith, and_le_r x (x - 1))

module _ (x : ℕ) (some : 0 < x) (fits : x < 2 ^ 64) where
  pub place : lowest_of x < 64
  place = (bit_at-trailing_zeros w64 x some fits).0

  there : bit_at x (lowest_of x) ≡ 1
  there = (bit_at-trailing_zeros w64 x some fits).1

  gone : bit_at (less_lowest x) (lowest_of x) ≡ 0
  gone = (without_lowest 64 x some fits).0

  apart : (p k y : ℕ) → k < 64 → k ≢ lowest_of x → joining (less_lowest x) p k y ≡ joining x p k y
  apart p k y h d =
      ap (λ (m : ℕ). bit_or y (m * p)) (member_as (less_lowest x) k h ∙ (without_lowest 64 x some fits).1 k d ∙ sym (member_as x k h))

  here : (p y : ℕ) → joining (less_lowest x) p (lowest_of x) (bit_or y p) ≡ joining x p (lowest_of x) y
  here p y =
      ap (λ (m : ℕ). bit_or (bit_or y p) (m * p)) (member_as (less_lowest x) (lowest_of x) place ∙ gone)
      ∙ ap (bit_or (bit_or y p)) (zero-mul p)
      ∙ or_zero_r (bit_or y p)
      ∙ sym (ap (λ (m : ℕ). bit_or y (m * p)) (member_as x (lowest_of x) place ∙ there) ∙ ap (bit_or y) (one-mul p))

  -- its word is not held: nothing is joined to it
  pub beyond : (p : ℕ) (s : List ℕ) → length s ≤ lowest_of x → changed (matrix_words ours.words) (joining (less_lowest x) p) s ≡ changed (matrix_words ours.words) (joining x p) s
  beyond p s h = changed_alike (matrix_words ours.words) (joining (less_lowest x) p) (joining x p) s (λ k l j. apart p k (get_or s k 0) l (λ e. omega arith))

  pub joins :
      (p : ℕ) (s : List ℕ) → lowest_of x < length s
      → changed (matrix_words ours.words) (joining (less_lowest x) p) (set s (lowest_of x) (bit_or (get_or s (lowest_of x) 0) p))
      ≡ changed (matrix_words ours.words) (joining x p) s
  joins p s h =
      changed_set (matrix_words ours.words) (lowest_of x) (bit_or (get_or s (lowest_of x) 0) p) (joining (less_lowest x) p) (joining x p) s place h
      (here p (get_or s (lowest_of x) 0))
      (λ k y l d. apart p k y l d)

-- nothing is left to be done for a set of no label
pub all_joined : (p : ℕ) (s : List ℕ) → changed (matrix_words ours.words) (joining 0 p) s ≡ s
all_joined p s =
    changed_alike (matrix_words ours.words) (joining 0 p) (λ k y. y) s
    (λ k h l. ap (λ (m : ℕ). bit_or (get_or s k 0) (m * p)) (member_none 1 k) ∙ ap (bit_or (get_or s k 0)) (zero-mul p) ∙ or_zero_r (get_or s k 0))
    ∙ changed_same (matrix_words ours.words) s

-- two changes, one after the other
changed_twice : (n : ℕ) (f g : ℕ → ℕ → ℕ) (s : List ℕ) → changed n g (changed n f s) ≡ changed n (λ k y. g k (f k y)) s
unfolding changed
changed_twice zero f g s = refl
changed_twice (suc n) f g [] = refl
changed_twice (suc n) f g (x ∷ s) = ap (λ (t : List ℕ). g zero (f zero x) ∷ t) (changed_twice n (λ k. f (suc k)) (λ k. g (suc k)) s)

member_of_both : (a b k : ℕ) → k < 64 → member (bit_and a b ∷ []) k ≡ min (member (a ∷ []) k) (member (b ∷ []) k)
member_of_both a b k h = member_as (bit_and a b) k h ∙ bit_at_and a b k ∙ sym (ap₂ min (member_as a k h) (member_as b k h))

-- the labels of a that b lacks
abbrev pub alone_in : ℕ → ℕ → ℕ
alone_in a b = bit_and a (bit_not w64 b)

member_alone : (a b k : ℕ) → b < 2 ^ 64 → k < 64 → member (alone_in a b ∷ []) k ≡ min (member (a ∷ []) k) (1 - member (b ∷ []) k)
member_alone a b k fits h =
    member_of_both a (bit_not w64 b) k h
    ∙ ap (min (member (a ∷ []) k)) (member_as (bit_not w64 b) k h ∙ bit_at_not w64 b k fits h ∙ ap (λ (n : ℕ). 1 - n) (sym (member_as b k h)))

-- the word y joined with both sets if s is 1, with b if t is, and with a if u is
abbrev thrice : ℕ → ℕ → ℕ → ℕ → ℕ → ℕ → ℕ
thrice a b y s t u = bit_or (bit_or (bit_or y (s * bit_or a b)) (t * b)) (u * a)

-- its label is in neither, in b alone, in a alone or in both
one_of_three :
    (a b y p q : ℕ) → p < 2 → q < 2 → thrice a b y (min p q) (min p (1 - q)) (min q (1 - p)) ≡ bit_or y (bit_or (p * b) (q * a))
one_of_three a b y zero zero h l = simp (zero-mul, or_zero_r) refl
one_of_three a b y zero (suc zero) h l = simp (zero-mul, one-mul, or_zero_r) refl
one_of_three a b y (suc zero) zero h l = simp (zero-mul, one-mul, or_zero_r) refl
one_of_three a b y (suc zero) (suc zero) h l = simp (zero-mul, one-mul, or_zero_r) (ap (bit_or y) (or_comm a b))
one_of_three a b y (suc (suc p)) q h l = absurd (omega arith)
one_of_three a b y p (suc (suc q)) h l = absurd (omega arith)

module _ (a b : ℕ) (fits_a : a < 2 ^ 64) (fits_b : b < 2 ^ 64) where
  joined_once :
      (k y : ℕ) → k < 64
      → thrice a b y (member (bit_and a b ∷ []) k) (member (alone_in a b ∷ []) k) (member (alone_in b a ∷ []) k) ≡ crossed_word a b k y
  joined_once k y h =
      let p = member (a ∷ []) k in
      let q = member (b ∷ []) k in
      ap₂ (λ (s t : ℕ). thrice a b y s t (member (alone_in b a ∷ []) k)) (member_of_both a b k h) (member_alone a b k fits_b h)
      ∙ ap (thrice a b y (min p q) (min p (1 - q))) (member_alone b a k fits_a h)
      ∙ one_of_three a b y p q (member_lt (a ∷ []) k) (member_lt (b ∷ []) k)

  -- first the labels of both, then those of a alone, then those of b alone
  pub crossed_in_three :
      (m : List ℕ)
      → changed (matrix_words ours.words) (joining (alone_in b a) a)
      (changed (matrix_words ours.words) (joining (alone_in a b) b) (changed (matrix_words ours.words) (joining (bit_and a b) (bit_or a b)) m))
      ≡ crossed ours.words (a ∷ []) (b ∷ []) m
  crossed_in_three m =
      let n = matrix_words ours.words in
      let both = joining (bit_and a b) (bit_or a b) in
      let in_a = joining (alone_in a b) b in
      let in_b = joining (alone_in b a) a in
      ap (changed n in_b) (changed_twice n both in_a m)
      ∙ changed_twice n (λ k y. in_a k (both k y)) in_b m
      ∙ changed_alike n _ (crossed_word a b) m (λ k h l. joined_once k (get_or m k 0) h)
      ∙ sym (crossed_one a b m)
