-- The listing has a line for each pair that its opening line counts, and the opening line itself: only the end of a line is a newline, since no digit is one.
-- Assumes nothing.
use mathlib.Core.Path.{◌≡◌, refl, sym, ap, ap₂, ◌∙◌}
use mathlib.Core.Bool.{Bool, true, false, false≢true}
use mathlib.Core.List.{List, [], ◌∷◌, ◌++◌, Memᴰ}
use Prim.Native.Nat.{ℕ, ◌+◌}
use native.Mathlib.Nat.{zero-add, add_assoc}
use native.Mathlib.Omega.{arith}
use borrow.Author.Tests.{eqb-true}
use lib.Dec.{eqb}
use lib.ListN.{length}
use Rattle.numbers.specs.General.{one_if}
use Rattle.matrix.specs.Matrix.{Pair, pairs_at_or_above}
use Rattle.text.specs.Bytes.{ascii, tab, newline, is_digit}
use Rattle.text.specs.Numbers.{spelled}
use Rattle.text.proofs.DigitLaws.{newline_no_digit}
use Rattle.text.proofs.SpelledLaws.{spelled_digits}
use Rattle.text.specs.Lines.{line}
use Rattle.text.proofs.LineLaws.{ended, first_field}
use Rattle.listing.specs.Pairs.{pairs}
use Rattle.listing.specs.Order.{line_count}
use Rattle.listing.specs.Listing.{verdict_text, opening, pair_line, lines, listing}
use Rattle.listing.proofs.Counted.{count_is_lines}

count_joined : (a b : List ℕ) → line_count (a ++ b) ≡ line_count a + line_count b
unfolding line_count
count_joined [] b = sym (zero-add (line_count b))
count_joined (x ∷ a) b =
    ap (λ (n : ℕ). one_if (eqb x newline) + n) (count_joined a b) ∙ sym (add_assoc (one_if (eqb x newline)) (line_count a) (line_count b))

no_newline : (a : List ℕ) → ((b : ℕ) → Memᴰ b a → is_digit b ≡ true) → line_count a ≡ 0
unfolding line_count
no_newline [] digits = refl
no_newline (x ∷ a) digits =
    ap₂ ◌+◌ (ap one_if (not_newline (eqb x newline) refl)) (no_newline a (λ b h. digits b (Memᴰ.tail h)))
  where
    not_newline : (t : Bool) → eqb x newline ≡ t → eqb x newline ≡ false
    not_newline false e = e
    not_newline true e =
        absurd
        (false≢true (sym newline_no_digit ∙ ap is_digit (sym (eqb-true x newline e)) ∙ digits x (Memᴰ.head refl)))

number_in_line : (n : ℕ) → line_count (spelled n) ≡ 0
number_in_line n = no_newline (spelled n) (spelled_digits n)

-- The fields of a line bring their own newlines, and the line brings one.
first_in_line : (field next : List ℕ) (more : List (List ℕ)) → line_count (line field (next ∷ more)) ≡ line_count field + line_count (line next more)
unfolding line_count
first_in_line field next more =
    ap line_count (first_field field next more)
    ∙ omega (arith, count_joined (ended field tab) (line next more), count_joined field (tab ∷ []))

last_in_line : (field : List ℕ) → line_count (line field []) ≡ line_count field + 1
unfolding line_count
last_in_line field = count_joined field (newline ∷ [])

verdict_in_line : (wide : Bool) → line_count (verdict_text wide) ≡ 0
unfolding line_count
verdict_in_line true = refl
verdict_in_line false = refl

pair_line_is_one : (i j : ℕ) → line_count (pair_line i j) ≡ 1
unfolding pair_line
pair_line_is_one i j =
    omega (arith, first_in_line (spelled i) (spelled j) [], last_in_line (spelled j), number_in_line i, number_in_line j)

opening_is_one : (count rounds : ℕ) (wide : Bool) → line_count (opening count rounds wide) ≡ 1
unfolding opening line_count
opening_is_one count rounds wide =
    omega (
      arith,
      first_in_line (ascii "pairs") (spelled count) (ascii "rounds" ∷ spelled rounds ∷ verdict_text wide ∷ []),
      first_in_line (spelled count) (ascii "rounds") (spelled rounds ∷ verdict_text wide ∷ []),
      first_in_line (ascii "rounds") (spelled rounds) (verdict_text wide ∷ []),
      first_in_line (spelled rounds) (verdict_text wide) [],
      last_in_line (verdict_text wide),
      number_in_line count,
      number_in_line rounds,
      verdict_in_line wide,
    )

a_line_each : (p : List Pair) → line_count (lines p) ≡ length p
unfolding line_count lines
a_line_each [] = refl
a_line_each (p ∷ more) =
    count_joined (pair_line p.0 p.1) (lines more)
    ∙ omega (arith, pair_line_is_one p.0 p.1, a_line_each more)

pub listing_lines : (w : ℕ) (m : List ℕ) (rounds : ℕ) (wide : Bool) → line_count (listing w m rounds wide) ≡ pairs_at_or_above w m + 1
unfolding listing
listing_lines w m rounds wide =
    count_joined (opening (pairs_at_or_above w m) rounds wide) (lines (pairs w m))
    ∙ omega (arith, opening_is_one (pairs_at_or_above w m) rounds wide, a_line_each (pairs w m), count_is_lines w m)
