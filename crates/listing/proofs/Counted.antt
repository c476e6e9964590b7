-- The count is the number of pair lines: a pair is listed once if it is marked at or above the diagonal, and not at all if it is not.
-- Assumes nothing.
use mathlib.Core.Path.{◌≡◌, refl, sym, ◌∙◌}
use mathlib.Core.Bool.{Bool, true, false, cond, ◌&&◌}
use mathlib.Core.List.{List, [], ◌∷◌}
use Prim.Native.Nat.{ℕ, zero, suc, ◌*◌, ◌≤◌, ◌<◌}
use native.Mathlib.Nat.{le_refl, zero-mul}
use native.Mathlib.Omega.{arith}
use lib.Dec.{eqb, leb}
use lib.ListN.{length}
use Rattle.numbers.specs.General.{one_if, sum_below, in_turn}
use Rattle.numbers.specs.Sizes.{ours, label_ceiling}
use Rattle.labels.specs.Sets.{member}
use Rattle.matrix.specs.Matrix.{Pair, partners, marked, pairs_at_or_above}
use Rattle.labels.proofs.SetLaws.{member_lt}
use Rattle.matrix.proofs.MatrixLaws.{marked_lt}
use Rattle.numbers.proofs.InTurnLaws.{length_in_turn}
use Rattle.numbers.proofs.SumLaws.{sum_alike}
use Rattle.listing.specs.Pairs.{pair_at, pairs}

one_or_none : (p : Pair) (t : Bool) (x : ℕ) → x < 2 → length (cond {A = List Pair} (t && eqb x 1) (p ∷ []) []) ≡ one_if t * x
one_or_none p true zero h = refl
one_or_none p true (suc zero) h = refl
one_or_none p true (suc (suc x)) h = absurd (omega arith)
one_or_none p false x h = sym (zero-mul x)

pub count_is_lines : (w : ℕ) (m : List ℕ) → pairs_at_or_above w m ≡ length (pairs w m)
unfolding pairs_at_or_above marked pair_at
count_is_lines w m =
    sym
    (length_in_turn (λ i. in_turn (label_ceiling w) (pair_at (partners w m i) i)) (label_ceiling w)
    ∙ sum_alike (label_ceiling w) _ _
    (λ i h. length_in_turn (pair_at (partners w m i) i) (label_ceiling w)
    ∙ sum_alike (label_ceiling w) _ _ (λ j l. one_or_none (i, j) (leb i j) (member (partners w m i) j) (member_lt (partners w m i) j))))

pub sum_monotone : (n : ℕ) (f g : ℕ → ℕ) → ((k : ℕ) → k < n → f k ≤ g k) → sum_below n f ≤ sum_below n g
unfolding sum_below
sum_monotone zero f g h = le_refl 0
sum_monotone (suc n) f g h =
    let earlier : sum_below n f ≤ sum_below n g = sum_monotone n f g (λ k l. h k (omega arith)) in
    let last : f n ≤ g n = h n (le_refl (suc n)) in
    omega arith

at_most : (t : Bool) (x : ℕ) → x < 2 → one_if t * x ≤ one_if t
at_most true x h = omega arith
at_most false x h = omega (arith, zero-mul x)

-- all labels of our size meet all: one pair for each two labels and for each label with itself
abbrev labels : ℕ
labels = label_ceiling ours.words

every_pair_lem : sum_below labels (λ i. sum_below labels (λ j. one_if (leb i j))) ≡ 2080
unfolding sum_below
every_pair_lem = refl

pub pairs_few : (m : List ℕ) → pairs_at_or_above ours.words m ≤ 2080
unfolding pairs_at_or_above
pairs_few m =
    rw (sym every_pair_lem)
    (sum_monotone labels (λ i. sum_below labels (λ j. one_if (leb i j) * marked ours.words m i j)) (λ i. sum_below labels (λ j. one_if (leb i j)))
    (λ i h. sum_monotone labels (λ j. one_if (leb i j) * marked ours.words m i j) (λ j. one_if (leb i j))
    (λ j l. at_most (leb i j) (marked ours.words m i j) (marked_lt ours.words m i j))))
