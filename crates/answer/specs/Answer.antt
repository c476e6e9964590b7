-- The text that answers a sheet: the listing of its recipe, or the line of a refusal.
use Rattle.std.specs.Prelude.{◌≡◌, List, [], ◌∷◌, ℕ, length, Result, Ok, Err}
use Rattle.numbers.specs.General.{laid}
use Rattle.numbers.specs.Refusals.{refusal_number, refusal_place}
use Rattle.numbers.specs.Sizes.{Size, row_ceiling}
use Rattle.numbers.specs.declared.Refusal.{Refusal}
use Rattle.text.specs.Bytes.{ascii}
use Rattle.text.specs.Lines.{line}
use Rattle.text.specs.Numbers.{spelled}
use Rattle.recipe.specs.Records.{table_of_rows}
use Rattle.recipe.specs.Rules.{judged}
use Rattle.recipe.specs.Statements.{program_of}
use Rattle.recipe.specs.Tables.{Table}
use Rattle.table.specs.Reading.{Reading, table, refused}
use Rattle.sheet.specs.Reading.{read_sheet}
use Rattle.listing.specs.Replies.{listing_of, fitted, held_after}

-- The line that tells a number and a place of refusal.
unfoldable pub refused_line : ℕ → ℕ → List ℕ
refused_line number place = line (ascii "refused") (spelled number ∷ spelled place ∷ [])

-- The line of a refusal.
abbrev pub refusal_line : Refusal → List ℕ
refusal_line r = refused_line (refusal_number r) (refusal_place r)

-- The text that answers a table of which the judge says this: the listing, or the line of the refusal.
abbrev pub answer_by : Size → Table → Result Unit Refusal → List ℕ
answer_by z t (Ok admitted) = listing_of z (program_of t)
answer_by z t (Err r) = refusal_line r

-- The text that answers a table.
abbrev pub answer_to_table : Size → Table → List ℕ
answer_to_table z t = answer_by z t (judged z t)

-- The text that answers a reading: that of the table that was read, or the line of the refusal.
abbrev pub answer_to_reading : Size → Reading → List ℕ
answer_to_reading z (table rows roots) = answer_to_table z (table_of_rows rows roots)
answer_to_reading z (refused r) = refusal_line r

-- The text that answers a sheet, which is read with places for all rows and roots that a table can have.
unfoldable pub answer_to : Size → List ℕ → List ℕ
answer_to z sheet = answer_to_reading z (read_sheet z row_ceiling z.procs sheet)

-- A text as an answer in lent bytes: it is laid at their front, and its length is the reply. Where it does not fit, the reply
-- says so, and the bytes are as they were.
pub record Answered (text old : List ℕ) (reply : Result ℕ Refusal) (new : List ℕ) : Type 0 where
  pub said : reply ≡ fitted text (length old)
  pub held : new ≡ held_after (laid text old) old reply
