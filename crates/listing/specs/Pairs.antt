-- The pairs that a matrix marks, each named once, in the order of the listing.
use Rattle.std.specs.Prelude.{cond, ◌&&◌, List, [], ◌∷◌, ℕ, eqb, leb}
use Rattle.numbers.specs.General.{in_turn}
use Rattle.numbers.specs.Sizes.{label_ceiling}
use Rattle.labels.specs.Sets.{member}
use Rattle.matrix.specs.Matrix.{Pair, partners}

-- The pair (i,j) alone, if i is not above j and j is among the partners of i; else no pair.
unfoldable pub pair_at : List ℕ → ℕ → ℕ → List Pair
pair_at partners i j = cond (leb i j && eqb (member partners j) 1) ((i, j) ∷ []) []

-- The pairs of label i with these partners, ascending by the partner.
abbrev pub pairs_of : ℕ → List ℕ → ℕ → List Pair
pairs_of w partners i = in_turn (label_ceiling w) (pair_at partners i)

-- Every pair (i,j) that the matrix marks with i not above j, ascending by i and then by j.
abbrev pub pairs : ℕ → List ℕ → List Pair
pairs w m = in_turn (label_ceiling w) (λ i. pairs_of w (partners w m i) i)
