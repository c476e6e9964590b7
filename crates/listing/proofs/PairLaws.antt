-- The lines of the pairs, label by label: a pair's line is there if it is marked, and below its own label no label has a pair.
-- Assumes nothing.
use mathlib.Core.Path.{◌≡◌, refl, ap, ap₂, ◌∙◌}
use mathlib.Core.Bool.{Bool, true, false, cond, ◌&&◌}
use mathlib.Core.List.{List, [], ◌∷◌, ◌++◌}
use Prim.Native.Nat.{ℕ, zero, suc, ◌≤◌, ◌<◌}
use native.Mathlib.Nat.{mul-one}
use borrow.Author.Tests.{le-leb, lt-leb}
use lib.Dec.{eqb, leb}
use lib.ListN.{length, get_or, take, drop}
use lib.Seq.{drop-cons}
use Rattle.numbers.specs.General.{in_turn, sum_below}
use Rattle.numbers.specs.Sizes.{ours, label_ceiling}
use Rattle.labels.specs.Sets.{member}
use Rattle.labels.proofs.SetLaws.{member_none}
use Rattle.matrix.specs.Matrix.{Pair, partners}
use Rattle.numbers.proofs.InTurnLaws.{length_in_turn, none_in_turn}
use Rattle.listing.specs.Pairs.{pair_at, pairs_of}
use Rattle.listing.specs.Listing.{pair_line, lines}
use Rattle.listing.proofs.LineLaws.{lines_append, lines_one}

-- ---- one pair

pair_by_tests :
    (s : List ℕ) (i j : ℕ) (a b : Bool) → leb i j ≡ a → eqb (member s j) 1 ≡ b → pair_at s i j ≡ cond (a && b) ((i, j) ∷ []) []
unfolding pair_at
pair_by_tests s i j a b e f = ap₂ (λ (x y : Bool). cond {A = List Pair} (x && y) ((i, j) ∷ []) []) e f

pub line_of_marked : (s : List ℕ) (i j : ℕ) → i ≤ j → eqb (member s j) 1 ≡ true → lines (pair_at s i j) ≡ pair_line i j
line_of_marked s i j h e = ap lines (pair_by_tests s i j true true (le-leb i j h) e) ∙ lines_one i j

pub no_line_of_unmarked : (s : List ℕ) (i j : ℕ) → i ≤ j → eqb (member s j) 1 ≡ false → lines (pair_at s i j) ≡ []
unfolding lines
no_line_of_unmarked s i j h e = ap lines (pair_by_tests s i j true false (le-leb i j h) e)

pub no_pair_below : (s : List ℕ) (i j : ℕ) → j < i → pair_at s i j ≡ []
no_pair_below s i j h = pair_by_tests s i j false (eqb (member s j) 1) (lt-leb i j h) refl

pub no_line_below : (s : List ℕ) (i j : ℕ) → j < i → lines (pair_at s i j) ≡ []
unfolding lines
no_line_below s i j h = ap lines (no_pair_below s i j h)

-- ---- lists of pairs in turn

module _ (f : ℕ → List Pair) where
  -- Their lines are the lines of each, in turn.
  pub lines_in_turn : (n : ℕ) → lines (in_turn n f) ≡ in_turn n (λ k. lines (f k))
  unfolding lines in_turn
  lines_in_turn zero = refl
  lines_in_turn (suc n) = lines_append (in_turn n f) (f n) ∙ ap (λ (s : List ℕ). s ++ lines (f n)) (lines_in_turn n)

  pub bytes_in_turn : (n : ℕ) → length (lines (in_turn n f)) ≡ sum_below n (λ k. length (lines (f k)))
  bytes_in_turn n = ap length (lines_in_turn n) ∙ length_in_turn (λ k. lines (f k)) n

-- ---- one word a label

no_line_of_none : (i j : ℕ) → lines (pair_at (0 ∷ []) i j) ≡ []
unfolding lines
no_line_of_none i j =
    ap lines (pair_by_tests (0 ∷ []) i j (leb i j) false refl (ap (λ (x : ℕ). eqb x 1) (member_none ours.words j)) ∙ go (leb i j))
  where
    go : (a : Bool) → cond {A = List Pair} (a && false) ((i, j) ∷ []) [] ≡ []
    go true = refl
    go false = refl

-- A label without partners has no lines.
pub no_lines_of_none : (word i : ℕ) → word ≡ 0 → lines (pairs_of ours.words (word ∷ []) i) ≡ []
no_lines_of_none word i none =
    rw none
    (lines_in_turn (pair_at (0 ∷ []) i) (label_ceiling ours.words)
    ∙ none_in_turn (λ k. lines (pair_at (0 ∷ []) i k)) (label_ceiling ours.words) (λ j h. no_line_of_none i j))

partners_one : (m : List ℕ) (i : ℕ) → i < length m → partners ours.words m i ≡ get_or m i 0 ∷ []
partners_one m i h =
    ap (λ (k : ℕ). take ours.words (drop k m)) (mul-one i) ∙ ap (take ours.words) (drop-cons m i 0 h)

-- The lines of label i's pairs, by the words of the matrix.
abbrev pub row_of : List ℕ → ℕ → List Pair
row_of m i = pairs_of ours.words (partners ours.words m i) i

pub row_one : (m : List ℕ) (i : ℕ) → i < length m → lines (row_of m i) ≡ lines (pairs_of ours.words (get_or m i 0 ∷ []) i)
row_one m i h = ap (λ (s : List ℕ). lines (pairs_of ours.words s i)) (partners_one m i h)
