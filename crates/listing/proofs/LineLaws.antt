-- A line is as long as its fields and the bytes that end them, and the lines of joined lists of pairs are the joined lines.
-- Assumes nothing.
use mathlib.Core.Path.{◌≡◌, refl, sym, ap, ◌∙◌}
use mathlib.Core.Bool.{Bool, true, false}
use mathlib.Core.List.{List, [], ◌∷◌, ◌++◌, append-nil, append_assoc}
use Prim.Native.Nat.{ℕ, ◌+◌, ◌≤◌}
use native.Mathlib.Omega.{arith}
use lib.Dec.{lit≤}
use lib.ListN.{length}
use Rattle.text.specs.Bytes.{ascii, newline}
use Rattle.text.specs.Numbers.{spelled}
use Rattle.text.proofs.LineLaws.{length_ended, length_first}
use Rattle.matrix.specs.Matrix.{Pair}
use Rattle.listing.specs.Listing.{verdict_text, opening, pair_line, lines}

pub length_pair_line : (i j : ℕ) → length (pair_line i j) ≡ length (spelled i) + length (spelled j) + 2
unfolding pair_line
length_pair_line i j = omega (arith, length_first (spelled i) (spelled j) [], length_ended (spelled j) newline)

pub length_opening :
    (count rounds : ℕ) (wide : Bool)
    → length (opening count rounds wide) ≡ length (spelled count) + length (spelled rounds) + length (verdict_text wide) + 16
unfolding opening
length_opening count rounds wide =
    omega (
      arith,
      length_first (ascii "pairs") (spelled count) (ascii "rounds" ∷ spelled rounds ∷ verdict_text wide ∷ []),
      length_first (spelled count) (ascii "rounds") (spelled rounds ∷ verdict_text wide ∷ []),
      length_first (ascii "rounds") (spelled rounds) (verdict_text wide ∷ []),
      length_first (spelled rounds) (verdict_text wide) [],
      length_ended (verdict_text wide) newline,
    )

pub verdict_short : (wide : Bool) → length (verdict_text wide) ≤ 5
verdict_short true = lit≤ tt
verdict_short false = lit≤ tt

pub lines_append : (a b : List Pair) → lines (a ++ b) ≡ lines a ++ lines b
unfolding lines
lines_append [] b = refl
lines_append (p ∷ a) b =
    ap (λ (t : List ℕ). pair_line p.0 p.1 ++ t) (lines_append a b)
    ∙ sym (append_assoc (pair_line p.0 p.1) (lines a) (lines b))

pub lines_one : (i j : ℕ) → lines ((i, j) ∷ []) ≡ pair_line i j
unfolding lines
lines_one i j = append-nil (pair_line i j)
