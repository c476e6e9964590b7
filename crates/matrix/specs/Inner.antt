-- Only the contracts of functions below the entries speak of these: partners joined to the labels of a set, a matrix cleared, and one copied over
-- another.
use Rattle.std.specs.Prelude.{List, [], ◌∷◌, ℕ, ◌*◌, get_or}
use Rattle.std.specs.Int.Bits.{bit_or}
use Rattle.numbers.specs.Sizes.{matrix_words}
use Rattle.labels.specs.Sets.{member}
use Rattle.labels.specs.Words.{changed}

-- The word x of label k, joined with the partners where the label is in the set.
abbrev pub joining : ℕ → ℕ → ℕ → ℕ → ℕ
joining set partners k x = bit_or x (member (set ∷ []) k * partners)

-- No pair is marked any more; words beyond the matrix stay.
unfoldable pub cleared : ℕ → List ℕ → List ℕ
cleared w m = changed (matrix_words w) (λ k x. 0) m

-- The pairs of the other matrix in the place of those marked before; words beyond the matrix stay.
unfoldable pub copied : ℕ → List ℕ → List ℕ → List ℕ
copied w m n = changed (matrix_words w) (λ k x. get_or n k 0) m
