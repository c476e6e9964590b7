-- A recipe has a listing as long as any can be: in its main every label meets every label, and a ring of procedures that main never reaches, in which
-- each round hands the sets on by one call, makes the rounds three digits long and leaves the verdict exact. Assumes nothing.
use mathlib.Core.Path.{◌≡◌, refl, sym, ap, ◌∙◌, subst}
use mathlib.Core.Bool.{false, false≢true}
use mathlib.Core.List.{List, [], ◌∷◌, ◌++◌}
use mathlib.Core.Logic.{inl, inr}
use Prim.Native.Nat.{ℕ, zero, suc, ◌+◌, ◌-◌, ◌^◌, ◌≤◌, ◌<◌}
use native.Mathlib.Omega.{arith}
use lib.ListN.{length, length-append, replicate}
use Rattle.std.specs.Prelude.{Err}
use Rattle.numbers.specs.General.{in_turn, sum_below, lowest}
use Rattle.numbers.specs.Sizes.{ours, word_bits, matrix_words}
use Rattle.numbers.specs.declared.Refusal.TheVariants.{ShortBytes}
use Rattle.labels.specs.Words.{bit, changed}
use Rattle.labels.specs.Sets.{member, single, joined}
use Rattle.matrix.specs.Matrix.{marked, crossed, pairs_at_or_above}
use Rattle.text.specs.Numbers.{spelled_in, spelled}
use Rattle.text.proofs.SpelledLaws.{spelled_short, spelled_long}
use Rattle.calculus.specs.Syntax.{Stmt, step, seq, loop, async, call, Program, body}
use Rattle.calculus.specs.Calls.{Calls, Reaches, one, more, NoSelfCall}
use Rattle.recipe.specs.Records.{table_of_rows}
use Rattle.recipe.specs.Rules.{sizes_right, operands_right, uses_by, judged_by, judged, IsAdmitted}
use Rattle.recipe.specs.Statements.{row_statement, statement_to, statement_at, program_of}
use Rattle.recipe.specs.Tables.{Table}
use Rattle.recipe.specs.declared.Row.{Row}
use Rattle.recipe.proofs.WithMatrix.{admitted_still}
use Rattle.calls.specs.Reached.{calling, wide}
use Rattle.calls.proofs.ReachedLaws.{calls_calling, no_self_call_exact}
use Rattle.analysis.specs.Summaries.{WordSummary}
use Rattle.analysis.specs.Rounds.{after}
use Rattle.analysis.specs.Replies.{rounds, main_pairs}
use Rattle.listing.specs.Pairs.{pair_at, pairs}
use Rattle.listing.specs.Listing.{opening, pair_line, lines, listing, longest_listing}
use Rattle.listing.specs.Replies.{listing_of, listed_as, listed}
use Rattle.listing.proofs.LineLaws.{length_opening}
use Rattle.listing.proofs.ReplyLaws.{too_long_lem}
use Rattle.listing.proofs.Sizes.{rounds_few}
use Rattle.demands.proofs.Demands.{changes_before}

-- ---- the recipe

-- a row, as a list of one; and by its kind
abbrev row : ℕ → ℕ → ℕ → List Row
row kind x y = record { kind = kind; x = x; y = y } ∷ []

abbrev step_row : ℕ → List Row
step_row l = row 1 l 0

abbrev seq_row : ℕ → ℕ → List Row
seq_row first second = row 2 first second

abbrev async_row : ℕ → List Row
async_row child = row 4 child 0

abbrev loop_row : ℕ → List Row
loop_row child = row 3 child 0

abbrev call_row : ℕ → List Row
call_row f = row 6 f 0

-- Main, rows 0 to 128: the steps of all labels, the sequence of them, grouped to the right, and loop{async{..}} around it.
unfoldable pub main_rows : List Row
main_rows = in_turn 64 step_row ++ in_turn 63 (λ k. seq_row (62 - k) (63 + k)) ++ async_row 126 ++ loop_row 127

-- The ring, rows 129 to 196: procedures 1 to 62 call the next one, and procedure 63 is (call 1; 0); async{call 1}.
unfoldable pub ring_rows : List Row
ring_rows =
    in_turn 62 (λ k. call_row (k + 2)) ++ call_row 1 ++ step_row 0 ++ seq_row 191 192 ++ call_row 1 ++ async_row 194 ++ seq_row 193 195

-- The recipe of the sample longest-listing.sheet.
unfoldable pub long_recipe : Table
long_recipe = table_of_rows (main_rows ++ ring_rows) ((128 ∷ []) ++ in_turn 62 (λ k. (129 + k) ∷ []) ++ (196 ∷ []))

long_admitted : IsAdmitted ours long_recipe
unfolding long_recipe main_rows ring_rows in_turn sizes_right operands_right uses_by sum_below lowest judged_by judged
long_admitted = refl

-- ---- its program

abbrev w : ℕ
w = ours.words

-- The steps of a label and so many more, one after the other.
steps_from : ℕ → ℕ → Stmt
steps_from l zero = step l
steps_from l (suc n) = seq (step l) (steps_from (suc l) n)

long : Program
long = (loop (async (steps_from 0 63)) ∷ []) ++ in_turn 62 (λ k. call (k + 2) ∷ []) ++ (seq (seq (call 1) (step 0)) (async (call 1)) ∷ [])

long_read : program_of long_recipe ≡ long
unfolding long_recipe main_rows ring_rows in_turn row_statement statement_to statement_at long steps_from
long_read = refl

-- ---- the verdict: main calls nothing, so it reaches nothing

main_calls_nothing : (g : ℕ) → ¬ Calls long 0 g
unfolding long steps_from calling
main_calls_nothing g c = false≢true (calls_calling (body long 0) g c)

main_reaches_nothing : {f g : ℕ} → Reaches long f g → ¬ (f ≡ 0)
main_reaches_nothing (one {f = f} {g = g} c) e = main_calls_nothing g (subst (λ (h : ℕ). Calls long h g) e c)
main_reaches_nothing (more {f = f} {g = g} c r) e = main_calls_nothing g (subst (λ (h : ℕ). Calls long h g) e c)

exact : wide long ≡ false
exact = no_self_call_exact long none
  where
    none : NoSelfCall long
    none f (inl e) r = main_reaches_nothing r e
    none f (inr q) r = main_reaches_nothing q refl

-- ---- the rounds: three times around the ring, for what runs, what is left running and what meets

slow : (marked w (after w long 188 1).M 0 0 ≡ 0) × (marked w (after w long 189 1).M 0 0 ≡ 1)
unfolding long steps_from in_turn bit changed member single joined crossed after marked
slow = (refl, refl)

many_rounds : 188 < rounds w long
many_rounds = changes_before w long 188 1 changes
  where
    changes : ¬ (after w long 189 1 ≡ after w long 188 1)
    changes e = omega (arith, slow.0, slow.1, ap (λ (x : WordSummary). marked w x.M 0 0) e)

few_rounds : rounds w long ≤ 192
few_rounds = rw long_read at (rounds_few long_recipe long_admitted)

-- ---- the pairs: every label meets every label

-- every bit of every word
every_pair : List ℕ
every_pair = replicate (matrix_words w) (2 ^ word_bits - 1)

all_meet : (k : ℕ) → (after w long (suc k) 0).M ≡ every_pair
unfolding long steps_from bit changed member single joined crossed after every_pair
all_meet k = refl

-- they are 2,080
count_four_digits : length (spelled (pairs_at_or_above w every_pair)) ≡ 4
unfolding spelled spelled_in pairs_at_or_above sum_below marked member bit every_pair
count_four_digits = refl

all_lines : length (lines (pairs w every_pair)) ≡ 11830
unfolding lines pair_line spelled spelled_in in_turn pair_at member bit every_pair
all_lines = refl

-- ---- the listing

long_listing : (r : ℕ) → 100 ≤ r → r < 1000 → length (listing w every_pair r false) ≡ longest_listing
unfolding listing
long_listing r h l =
    omega (
      arith,
      length-append (opening (pairs_at_or_above w every_pair) r false) (lines (pairs w every_pair)),
      length_opening (pairs_at_or_above w every_pair) r false,
      count_four_digits,
      spelled_long 2 r h,
      spelled_short 2 r l,
      all_lines,
    )

long_length : length (listing_of ours long) ≡ longest_listing
unfolding listing_of
long_length =
    rw (exact, main_pairs_lem) (long_listing (rounds w long) (omega (arith, many_rounds)) (omega (arith, few_rounds)))
  where
    down : rounds w long ≡ suc (rounds w long - 1)
    down = omega (arith, many_rounds)

    main_pairs_lem : main_pairs w long ≡ every_pair
    main_pairs_lem = ap (λ (k : ℕ). (after w long k 0).M) down ∙ all_meet (rounds w long - 1)

-- The longest listing there is: so no less room is enough.
pub longest_listing_there_is : IsAdmitted ours long_recipe × (length (listing_of ours (program_of long_recipe)) ≡ longest_listing)
longest_listing_there_is = (long_admitted, rw long_read long_length)

pub longest_listing_needs_its_room :
    (words room : ℕ) → matrix_words w ≤ words → room < longest_listing → listed ours long_recipe words room ≡ Err ShortBytes
unfolding listed
longest_listing_needs_its_room words room whole short =
    ap (listed_as ours (program_of long_recipe) room) (admitted_still ours long_recipe words long_admitted whole)
    ∙ sym (too_long_lem (listing_of ours (program_of long_recipe)) room (omega (arith, longest_listing_there_is.1)))
