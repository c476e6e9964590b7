-- What the answer is: the line of the reader's or of the judge's refusal, and else the listing. Each follows by the definition.
-- Assumes nothing.
use mathlib.Core.Path.{◌≡◌, ap, ◌∙◌}
use mathlib.Core.List.{List}
use Prim.Native.Nat.{ℕ}
use Rattle.std.specs.Prelude.{Err}
use Rattle.numbers.specs.Sizes.{Size, row_ceiling}
use Rattle.numbers.specs.declared.Refusal.{Refusal}
use Rattle.recipe.specs.Records.{table_of_rows}
use Rattle.recipe.specs.Rules.{judged, IsAdmitted}
use Rattle.recipe.specs.Statements.{program_of}
use Rattle.recipe.specs.declared.Row.{Row}
use Rattle.table.specs.Reading.{table, refused}
use Rattle.sheet.specs.Reading.{read_sheet}
use Rattle.listing.specs.Replies.{listing_of}
use Rattle.answer.specs.Answer.{refusal_line, answer_by, answer_to_reading, answer_to}

module _ (z : Size) (sheet : List ℕ) where
  -- The reader refuses the sheet.
  pub answer_refused : {r : Refusal} → read_sheet z row_ceiling z.procs sheet ≡ refused r → answer_to z sheet ≡ refusal_line r
  unfolding answer_to
  answer_refused e = ap (answer_to_reading z) e

  module _ {rows : List Row} {roots : List ℕ} (read : read_sheet z row_ceiling z.procs sheet ≡ table rows roots) where
    -- The judge refuses the table that was read.
    pub answer_judged : {r : Refusal} → judged z (table_of_rows rows roots) ≡ Err r → answer_to z sheet ≡ refusal_line r
    unfolding answer_to
    answer_judged e = ap (answer_to_reading z) read ∙ ap (answer_by z (table_of_rows rows roots)) e

    -- The judge admits it.
    pub answer_listed : IsAdmitted z (table_of_rows rows roots) → answer_to z sheet ≡ listing_of z (program_of (table_of_rows rows roots))
    unfolding answer_to
    answer_listed e = ap (answer_to_reading z) read ∙ ap (answer_by z (table_of_rows rows roots)) e
