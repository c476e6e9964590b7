-- Small computed cases of the definitions, byte for byte: the whole case, a label that meets itself, labels of one and two digits, and no pair at all.
-- Assumes nothing.
use mathlib.Core.Path.{◌≡◌, refl}
use mathlib.Core.Bool.{false, true}
use mathlib.Core.List.{List, ◌∷◌}
use Prim.Native.Nat.{ℕ, ◌^◌}
use lib.ListN.{replicate, set}
use Rattle.numbers.specs.General.{in_turn, sum_below}
use Rattle.numbers.specs.Sizes.{ours, matrix_words}
use Rattle.labels.specs.Words.{bit}
use Rattle.labels.specs.Sets.{member, none}
use Rattle.matrix.specs.Matrix.{marked, pairs_at_or_above}
use Rattle.text.specs.Bytes.{ascii}
use Rattle.text.specs.Numbers.{spelled, spelled_in}
use Rattle.listing.specs.Pairs.{pair_at, pairs}
use Rattle.listing.specs.Listing.{opening, pair_line, lines, listing}

-- 0 meets 1, 2 and 3, and 1 meets 2, each both ways round.
whole : List ℕ
whole = 14 ∷ 5 ∷ 3 ∷ 1 ∷ replicate 60 0

whole_listing : listing ours.words whole 1 false ≡ ascii "pairs\t4\trounds\t1\texact\n0\t1\n0\t2\n0\t3\n1\t2\n"
unfolding whole listing opening lines pair_line spelled spelled_in in_turn pair_at member bit sum_below pairs_at_or_above marked
whole_listing = refl

itself_listing : listing ours.words (1 ∷ replicate 63 0) 1 false ≡ ascii "pairs\t1\trounds\t1\texact\n0\t0\n"
unfolding listing opening lines pair_line spelled spelled_in in_turn pair_at member bit sum_below pairs_at_or_above marked
itself_listing = refl

-- 9 meets 63
two_digits_lines : lines (pairs ours.words (set (set (none (matrix_words ours.words)) 9 (2 ^ 63)) 63 (2 ^ 9))) ≡ ascii "9\t63\n"
unfolding lines pair_line spelled spelled_in in_turn pair_at member bit
two_digits_lines = refl

no_pair_listing : listing ours.words (none (matrix_words ours.words)) 12 true ≡ ascii "pairs\t0\trounds\t12\twide\n"
unfolding listing opening lines pair_line spelled spelled_in in_turn pair_at member bit sum_below pairs_at_or_above marked
no_pair_listing = refl
