-- What the writer writes the reader reads back, and what the reader reads the writer writes back, byte for byte: both spell by one form.
-- Assumes nothing.
use mathlib.Core.List.{List}
use mathlib.Core.Path.{◌≡◌, ap, ◌∙◌}
use Prim.Native.Nat.{ℕ, ◌≤◌}
use native.Mathlib.Omega.{arith}
use lib.ListN.{length}
use Rattle.std.specs.Prelude.{Ok}
use Rattle.numbers.specs.Sizes.{Size, ours}
use Rattle.recipe.specs.Offences.{KeepsRules}
use Rattle.recipe.specs.Records.{table_of_rows}
use Rattle.recipe.specs.Tables.{Table, rows, procs}
use Rattle.recipe.specs.declared.Row.{Row}
use Rattle.sheet.specs.Form.{spell, Holdable}
use Rattle.sheet.specs.Reading.{read_sheet}
use Rattle.sheet.proofs.SheetForms.{read_is_spelled, spelled_is_read}
use Rattle.table.specs.Reading.{table}
use Rattle.writer.specs.Replies.{written}
use Rattle.writer.specs.Rules.{table_rules}
use Rattle.writer.specs.Sheets.{records_of, sheet_of, longest_sheet}
use Rattle.writer.proofs.Kept.{kept, records_keep}
use Rattle.writer.proofs.Records.{as_many_records, records_again}
use Rattle.writer.proofs.Refusing.{written_keeps, kept_written}
use Rattle.writer.proofs.Sizes.{sheet_short}

module _ (z : Size) (t : Table) (room n : ℕ) (done : written z t room ≡ Ok n) where
  -- The rules without the room.
  pub table_keeps : KeepsRules (table_rules z t)
  table_keeps = let k = written_keeps z t room n done in (k.0, (k.1.0, (k.1.1.0, (k.1.1.1.0, tt))))

module _ (rowsLent rootsLent : ℕ) where
  -- ---- written, then read

  module _ (t : Table) (room n : ℕ) (done : written ours t room ≡ Ok n) (rows_fit : rows t ≤ rowsLent) (roots_fit : procs t ≤ rootsLent) where
    pub holdable : Holdable ours rowsLent rootsLent (records_of t) t.roots
    unfolding sheet_of
    holdable =
        let keeps = table_keeps ours t room n done in
        let facts = kept ours t keeps in
        record {
          rows_short = facts.rows_short;
          roots_short = facts.roots_short;
          rows_fit = omega (arith, as_many_records t, facts.few_rows);
          roots_fit = omega (arith, facts.few_procs);
          sheet_fits = omega (arith, sheet_short t keeps);
        }

    pub spelled_back : read_sheet ours rowsLent rootsLent (sheet_of t) ≡ table (records_of t) t.roots
    unfolding sheet_of
    spelled_back = spelled_is_read ours rowsLent rootsLent (records_of t) t.roots holdable

  -- ---- read, then written

  module _ (bytes : List ℕ) (records : List Row) (roots : List ℕ) (e : read_sheet ours rowsLent rootsLent bytes ≡ table records roots) where
    pub sheet_again : sheet_of (table_of_rows records roots) ≡ bytes
    unfolding sheet_of
    sheet_again =
        ap (λ (l : List Row). spell l roots) (records_again records roots) ∙ (read_is_spelled ours rowsLent rootsLent bytes records roots e).0

    read_keeps : KeepsRules (table_rules ours (table_of_rows records roots))
    read_keeps =
        let held = (read_is_spelled ours rowsLent rootsLent bytes records roots e).1 in
        records_keep ours records roots (omega (arith, held.rows_fit)) (omega (arith, held.roots_fit)) held.rows_short held.roots_short

    -- No sheet that is read has more bytes than the longest that is written.
    pub read_short : length bytes ≤ longest_sheet
    read_short = omega (arith, ap length sheet_again, sheet_short (table_of_rows records roots) read_keeps)

    pub written_again : (room : ℕ) → length bytes ≤ room → written ours (table_of_rows records roots) room ≡ Ok (length bytes)
    written_again room fits =
        kept_written ours (table_of_rows records roots) room read_keeps (omega (arith, ap length sheet_again))
        ∙ ap (λ (s : List ℕ). Ok (length s)) sheet_again
