-- The answer is no longer than the longest listing: a refusal's number has two digits and its place has four, so its line is short.
-- Assumes nothing.
use mathlib.Core.Path.{◌≡◌, refl, sym, ap, ◌∙◌}
use mathlib.Core.List.{List}
use Prim.Native.Nat.{ℕ, ◌+◌, ◌≤◌, ◌<◌}
use native.Mathlib.Nat.{le_trans}
use native.Mathlib.Omega.{arith}
use lib.Dec.{lit<}
use lib.ListN.{length, length-map}
use Rattle.std.specs.Prelude.{Result, Ok, Err}
use Rattle.numbers.specs.General.{laid}
use Rattle.numbers.specs.Refusals.{refusal_number, refusal_place}
use Rattle.numbers.specs.Sizes.{ours, row_ceiling}
use Rattle.numbers.specs.declared.Refusal.{Refusal}
use Rattle.numbers.specs.declared.Refusal.TheVariants as why
use Rattle.text.proofs.SpelledLaws.{spelled_short, spelled_four}
use Rattle.recipe.specs.Records.{table_of_rows}
use Rattle.recipe.specs.Rules.{judged}
use Rattle.recipe.specs.Tables.{Table, rows, procs}
use Rattle.recipe.specs.declared.Row.{Row}
use Rattle.table.specs.Reading.{Reading, table, refused}
use Rattle.sheet.specs.Reading.{read_sheet}
use Rattle.sheet.proofs.SheetForms.{InRoom, sheet_within}
use Rattle.listing.specs.Listing.{longest_listing}
use Rattle.listing.specs.Replies.{fitted, held_after}
use Rattle.listing.proofs.ReplyLaws.{fits}
use Rattle.listing.proofs.Sizes.{recipe_listing_short}
use Rattle.answer.specs.Answer.{refusal_line, answer_by, answer_to_reading, answer_to, Answered}
use Rattle.answer.proofs.LineLaws.{length_refused}
use Rattle.answer.proofs.Places.{ReadWithin, line_within, JudgedWithin, place_within}

number_short : (r : Refusal) → refusal_number r < 100
number_short why.Sizes = lit< tt
number_short why.ShortMatrix = lit< tt
number_short (why.UnknownKind row) = lit< tt
number_short (why.WrongOperand row) = lit< tt
number_short (why.NoSuchRow proc) = lit< tt
number_short (why.UsedAgain row) = lit< tt
number_short (why.Unused row) = lit< tt
number_short why.LongSheet = lit< tt
number_short (why.WrongForm line) = lit< tt
number_short (why.NoRoom line) = lit< tt
number_short why.ShortBytes = lit< tt
number_short (why.LongOperand row) = lit< tt
number_short (why.LongRoot proc) = lit< tt

-- Every place that a refusal of ours names lies within this.
abbrev place_ceiling : ℕ
place_ceiling = row_ceiling + ours.procs

line_short : (r : Refusal) → refusal_place r ≤ place_ceiling → length (refusal_line r) ≤ longest_listing
line_short r h =
    omega (
      arith,
      length_refused (refusal_number r) (refusal_place r),
      spelled_short 1 (refusal_number r) (number_short r),
      spelled_four (refusal_place r) (omega arith),
    )

judged_short :
    (t : Table) (j : Result Unit Refusal) → judged ours t ≡ j → rows t + procs t ≤ place_ceiling → JudgedWithin (rows t + procs t) j
    → length (answer_by ours t j) ≤ longest_listing
judged_short t (Ok admitted) e h p = recipe_listing_short t e
judged_short t (Err r) e h p = line_short r (le_trans p h)

reading_short : (w : Reading) → InRoom row_ceiling ours.procs w → ReadWithin place_ceiling w → length (answer_to_reading ours w) ≤ longest_listing
reading_short (table rows roots) few p =
    let t = table_of_rows rows roots in
    judged_short t (judged ours t) refl (omega (arith, few.rows, few.roots, length-map rows (λ (row : Row). row.kind))) (place_within ours t)
reading_short (refused r) few p = line_short r p

pub answer_short : (sheet : List ℕ) → length (answer_to ours sheet) ≤ longest_listing
unfolding answer_to
answer_short sheet =
    reading_short (read_sheet ours row_ceiling ours.procs sheet) (sheet_within ours row_ceiling ours.procs sheet)
    (line_within ours row_ceiling ours.procs sheet)

-- Who lends room for the longest listing is never refused.
pub answer_whole :
    (sheet : List ℕ) (room : ℕ) → longest_listing ≤ room → fitted (answer_to ours sheet) room ≡ Ok (length (answer_to ours sheet))
answer_whole sheet room h = sym (fits (answer_to ours sheet) room (le_trans (answer_short sheet) h))

-- With that room the reply is the answer's length, and the answer stands at the front of the bytes.
pub answer_stands :
    (sheet old : List ℕ) {r : Result ℕ Refusal} {new : List ℕ} → longest_listing ≤ length old → Answered (answer_to ours sheet) old r new
    → (r ≡ Ok (length (answer_to ours sheet))) × (new ≡ laid (answer_to ours sheet) old)
answer_stands sheet old h a =
    let said = a.said ∙ answer_whole sheet (length old) h in
    (said, a.held ∙ ap (held_after (laid (answer_to ours sheet) old) old) said)
