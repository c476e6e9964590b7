-- The listing: an opening line, and then a line for each pair.
use Rattle.std.specs.Prelude.{Bool, cond, List, [], ◌∷◌, ◌++◌, ℕ}
use Rattle.matrix.specs.Matrix.{Pair, pairs_at_or_above}
use Rattle.text.specs.Bytes.{ascii}
use Rattle.text.specs.Numbers.{spelled}
use Rattle.text.specs.Lines.{line}
use Rattle.listing.specs.Pairs.{pairs}

-- The verdict as it is listed.
abbrev pub verdict_text : Bool → List ℕ
verdict_text wide = cond wide (ascii "wide") (ascii "exact")

-- The opening line.
unfoldable pub opening : ℕ → ℕ → Bool → List ℕ
opening count rounds wide = line (ascii "pairs") (spelled count ∷ ascii "rounds" ∷ spelled rounds ∷ verdict_text wide ∷ [])

-- The line of a pair.
unfoldable pub pair_line : ℕ → ℕ → List ℕ
pair_line i j = line (spelled i) (spelled j ∷ [])

-- The lines of pairs, in their order.
unfoldable pub lines : List Pair → List ℕ
lines [] = []
lines (p ∷ more) = pair_line p.0 p.1 ++ lines more

-- The listing of a matrix, the rounds, and whether the verdict is wide. The count is that of the ones at or above the diagonal.
unfoldable pub listing : ℕ → List ℕ → ℕ → Bool → List ℕ
listing w m rounds wide = opening (pairs_at_or_above w m) rounds wide ++ lines (pairs w m)

-- No recipe of our size has a listing of more bytes.
abbrev pub longest_listing : ℕ
longest_listing = 11858
