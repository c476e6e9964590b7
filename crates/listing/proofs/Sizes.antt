-- A listing has at most 11,858 bytes: 28 of the opening line, and a line for each two labels and for each label with itself, whose lengths are added up.
-- Assumes nothing.
use mathlib.Core.Path.{◌≡◌, refl, sym, ap, ◌∙◌}
use mathlib.Core.Bool.{Bool, true, false, cond}
use mathlib.Core.List.{List}
use Prim.Native.Nat.{ℕ, ◌+◌, ◌*◌, ◌^◌, ◌≤◌, ◌<◌}
use native.Mathlib.Nat.{le_trans}
use native.Mathlib.Decide.{dec_lt}
use native.Mathlib.Omega.{arith}
use borrow.Author.Tests.{lt-ltb, le-ltb, leb-true}
use lib.Dec.{eqb, leb, ltb, lit≤}
use lib.ListN.{length, length-append}
use Rattle.std.specs.Prelude.{Result, Ok, Err}
use Rattle.numbers.specs.General.{one_if, sum_below, laid}
use Rattle.numbers.specs.Sizes.{Size, ours, label_ceiling}
use Rattle.numbers.specs.declared.Refusal.{Refusal}
use Rattle.numbers.specs.declared.Refusal.TheVariants.{ShortBytes}
use Rattle.numbers.proofs.LowestLaws.{lowest_within}
use Rattle.labels.specs.Sets.{member}
use Rattle.matrix.specs.Matrix.{Pair, partners, pairs_at_or_above}
use Rattle.text.specs.Numbers.{spelled}
use Rattle.text.proofs.SpelledLaws.{spelled_alone, spelled_short, spelled_four, digits_few}
use Rattle.recipe.specs.Rules.{IsAdmitted, judged_with}
use Rattle.recipe.specs.Statements.{program_of}
use Rattle.recipe.specs.Tables.{Table}
use Rattle.recipe.proofs.Readings.{program_length}
use Rattle.recipe.proofs.Admitted.{sizes_right_lem}
use Rattle.recipe.proofs.WithMatrix.{admitted_with}
use Rattle.calls.specs.Reached.{wide}
use Rattle.analysis.specs.Rounds.{settled}
use Rattle.analysis.specs.Replies.{rounds, main_pairs, matrix_after}
use Rattle.listing.specs.Pairs.{pair_at, pairs}
use Rattle.listing.specs.Listing.{opening, pair_line, lines, listing, longest_listing}
use Rattle.listing.specs.Replies.{listing_of, fitted, listed_as, held_after, listed, matrix_listed, bytes_listed}
use Rattle.listing.proofs.LineLaws.{length_pair_line, length_opening, verdict_short}
use Rattle.listing.proofs.PairLaws.{line_of_marked, no_line_of_unmarked, no_pair_below, bytes_in_turn, row_of}
use Rattle.listing.proofs.Counted.{sum_monotone, pairs_few}
use Rattle.listing.proofs.ReplyLaws.{fits, unchanged}

-- the labels of our size
abbrev labels : ℕ
labels = label_ceiling ours.words

-- the most digits that a label has
abbrev label_width : ℕ → ℕ
label_width l = cond (ltb l 10) 1 2

-- the most bytes that the line of a pair has
line_width : ℕ → ℕ → ℕ
line_width i j = label_width i + label_width j + 2

label_short : (l : ℕ) → l < labels → length (spelled l) ≤ label_width l
label_short l h = by_size (dec_lt l 10)
  where
    by_size : Dec (l < 10) → length (spelled l) ≤ label_width l
    by_size (yes s) = rw (lt-ltb l 10 s, spelled_alone l s) (lit≤ tt)
    by_size (no s) = rw (le-ltb l 10 (omega arith)) (spelled_short 1 l (omega arith))

line_short : (i j : ℕ) → i < labels → j < labels → length (pair_line i j) ≤ line_width i j
unfolding line_width
line_short i j h l = omega (arith, length_pair_line i j, label_short i h, label_short j l)

line_at_short : (s : List ℕ) (i j : ℕ) → i < labels → j < labels → length (lines (pair_at s i j)) ≤ one_if (leb i j) * line_width i j
unfolding lines
line_at_short s i j h l = by_tests (leb i j) refl (eqb (member s j) 1) refl
  where
    by_tests : (a : Bool) → leb i j ≡ a → (b : Bool) → eqb (member s j) 1 ≡ b → length (lines (pair_at s i j)) ≤ one_if a * line_width i j
    by_tests true e true f = omega (arith, ap length (line_of_marked s i j (leb-true i j e) f), line_short i j h l)
    by_tests true e false f = omega (arith, ap length (no_line_of_unmarked s i j (leb-true i j e) f))
    by_tests false e b f =
        omega (arith, ap (λ (p : List Pair). length (lines p)) (no_pair_below s i j (borrow.Author.Tests.leb-false i j e)))

-- the lines of every pair there can be
every_line : sum_below (labels) (λ i. sum_below (labels) (λ j. one_if (leb i j) * line_width i j)) ≡ 11830
unfolding sum_below line_width
every_line = refl

pub lines_short : (m : List ℕ) → length (lines (pairs ours.words m)) ≤ 11830
lines_short m =
    rw (bytes_in_turn (row_of m) labels, sym every_line)
    (sum_monotone labels _ (λ i. sum_below labels (λ j. one_if (leb i j) * line_width i j))
    (λ i h. rw (bytes_in_turn (pair_at (partners ours.words m i) i) labels)
    (sum_monotone labels _ (λ j. one_if (leb i j) * line_width i j) (λ j l. line_at_short (partners ours.words m i) i j h l))))

pub opening_short : (count rounds : ℕ) (wide : Bool) → count ≤ 2080 → rounds ≤ 192 → length (opening count rounds wide) ≤ 28
opening_short count rounds wide h l =
    omega (
      arith,
      length_opening count rounds wide,
      spelled_four count (omega arith),
      spelled_short 2 rounds (omega arith),
      verdict_short wide,
    )

pub listing_short : (m : List ℕ) (rounds : ℕ) (wide : Bool) → rounds ≤ 192 → length (listing ours.words m rounds wide) ≤ longest_listing
unfolding listing
listing_short m rounds wide h =
    omega (
      arith,
      length-append (opening (pairs_at_or_above ours.words m) rounds wide) (lines (pairs ours.words m)),
      opening_short (pairs_at_or_above ours.words m) rounds wide (pairs_few m) h,
      lines_short m,
    )

-- Whatever the rounds are, a listing is short enough to be counted.
pub listing_counts : (m : List ℕ) (rounds : ℕ) (wide : Bool) → rounds < 2 ^ 64 → length (listing ours.words m rounds wide) < 2 ^ 64
unfolding listing
listing_counts m rounds wide h =
    let count = pairs_at_or_above ours.words m in
    omega (
      arith,
      length-append (opening count rounds wide) (lines (pairs ours.words m)),
      length_opening count rounds wide,
      spelled_four count (omega (arith, pairs_few m)),
      digits_few rounds h,
      verdict_short wide,
      lines_short m,
    )

-- ---- the listing of a recipe

pub rounds_few : (t : Table) → IsAdmitted ours t → rounds ours.words (program_of t) ≤ 192
unfolding rounds
rounds_few t ok =
    omega (
      arith,
      lowest_within (3 * length (program_of t)) (settled ours.words (program_of t)),
      program_length t,
      (sizes_right_lem ours t ok).few_procs_lem,
    )

pub recipe_listing_short : (t : Table) → IsAdmitted ours t → length (listing_of ours (program_of t)) ≤ longest_listing
unfolding listing_of
recipe_listing_short t ok =
    listing_short (main_pairs ours.words (program_of t)) (rounds ours.words (program_of t)) (wide (program_of t)) (rounds_few t ok)

fitted_length : (text : List ℕ) (room n : ℕ) → fitted text room ≡ Ok n → (n ≡ length text) × (n ≤ room)
unfolding fitted
fitted_length text room n e = go (leb (length text) room) refl e
  where
    go :
        (b : Bool) → leb (length text) room ≡ b → cond b (Ok (length text)) (Err ShortBytes) ≡ Ok n
        → (n ≡ length text) × (n ≤ room)
    go true f g = let exact : n ≡ length text = cc in (exact, omega (arith, leb-true (length text) room f))
    go false f g = let z : ◌≡◌ {A = ℕ} 0 1 = cc in absurd (omega arith)

module _ (z : Size) (t : Table) where
  -- The length in the reply is the listing's own, and lies within the lent bytes.
  pub length_exact :
      (words room n : ℕ) → listed z t words room ≡ Ok n → (n ≡ length (listing_of z (program_of t))) × (n ≤ room)
  unfolding listed
  length_exact words room n e = go (judged_with z t words) e
    where
      go : (j : Result Unit Refusal) → listed_as z (program_of t) room j ≡ Ok n → (n ≡ length (listing_of z (program_of t))) × (n ≤ room)
      go (Ok admitted) f = fitted_length (listing_of z (program_of t)) room n f
      go (Err r) f = let n : ◌≡◌ {A = ℕ} 0 1 = cc in absurd (omega arith)

  -- A refusal, for want of room among them, leaves the matrix and the bytes as they were.
  pub refused_unchanged :
      (m b : List ℕ) (r : Refusal) → listed z t (length m) (length b) ≡ Err r
      → (matrix_listed z t m (length b) ≡ m) × (bytes_listed z t (length m) b ≡ b)
  unfolding matrix_listed bytes_listed
  refused_unchanged m b r e = (unchanged _ m e, unchanged _ b e)

  -- After a listing the matrix holds what the analysis leaves, and the bytes begin with the listing.
  pub listed_held :
      (m b : List ℕ) (n : ℕ) → listed z t (length m) (length b) ≡ Ok n
      → (matrix_listed z t m (length b) ≡ matrix_after z t m) × (bytes_listed z t (length m) b ≡ laid (listing_of z (program_of t)) b)
  unfolding matrix_listed bytes_listed
  listed_held m b n e =
      (ap (held_after (matrix_after z t m) m) e, ap (held_after (laid (listing_of z (program_of t)) b) b) e)

-- Where the longest listing has room, no admitted recipe is refused.
pub room_enough :
    (t : Table) (words room : ℕ) → judged_with ours t words ≡ Ok tt → longest_listing ≤ room
    → listed ours t words room ≡ Ok (length (listing_of ours (program_of t)))
unfolding listed
room_enough t words room ok h =
    ap (listed_as ours (program_of t) room) ok
    ∙ sym (fits (listing_of ours (program_of t)) room (le_trans (recipe_listing_short t (admitted_with ours t words ok).0) h))
