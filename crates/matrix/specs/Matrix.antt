-- A matrix of label pairs is w words a label, label by label: the words of label i hold its partners.
use Rattle.std.specs.Prelude.{List, ℕ, ◌*◌, ◌/◌, ◌%◌, leb, get_or, take, drop}
use Rattle.std.specs.Int.Bits.{bit_or}
use Rattle.numbers.specs.General.{one_if, sum_below}
use Rattle.numbers.specs.Sizes.{label_ceiling, matrix_words}
use Rattle.labels.specs.Words.{changed}
use Rattle.labels.specs.Sets.{member, joined}

-- Two labels.
abbrev pub Pair : Type 0
Pair = ℕ × ℕ

-- The set of label i's partners.
abbrev pub partners : ℕ → List ℕ → ℕ → List ℕ
partners w m i = take w (drop (i * w) m)

-- 1 if the pair (i,j) is marked, else 0.
unfoldable pub marked : ℕ → List ℕ → ℕ → ℕ → ℕ
marked w m i j = member (partners w m i) j

-- The pairs of both matrices; words beyond the matrix stay.
abbrev pub merged : ℕ → List ℕ → List ℕ → List ℕ
merged w m n = joined (matrix_words w) m n

-- Every (a,b) and every (b,a) marked besides: word k belongs to label k / w, and takes b's word if that label is in a, a's if it is in b.
unfoldable pub crossed : ℕ → List ℕ → List ℕ → List ℕ → List ℕ
crossed w a b m =
    changed (matrix_words w)
    (λ k x. bit_or x (bit_or (member a (k / w) * get_or b (k % w) 0) (member b (k / w) * get_or a (k % w) 0)))
    m

-- The number of marked pairs (i,j) with i not above j.
unfoldable pub pairs_at_or_above : ℕ → List ℕ → ℕ
pairs_at_or_above w m =
    sum_below (label_ceiling w) (λ i. sum_below (label_ceiling w) (λ j. one_if (leb i j) * marked w m i j))
