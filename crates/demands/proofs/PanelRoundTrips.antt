-- The same round trips for a caller in C, who gets one number: below 2^32 it is the length written, or the rows and procedures read.
-- Assumes nothing.
use mathlib.Core.Path.{◌≡◌, refl, sym, ap, ◌∙◌}
use mathlib.Core.List.{List}
use Prim.Native.Nat.{ℕ, ◌+◌, ◌*◌, ◌/◌, ◌%◌, ◌≤◌, ◌<◌}
use lib.ListN.{length, take, length-map}
use Rattle.numbers.specs.General.{laid}
use Rattle.numbers.specs.Sizes.{ours}
use Rattle.recipe.specs.Records.{kinds_of, xs_of, ys_of, table_of_rows}
use Rattle.recipe.specs.Tables.{Table, table_of, rows, procs}
use Rattle.recipe.specs.declared.Row.{Row}
use Rattle.table.specs.Reading.{Reading, table, rows_of, roots_of, reply_of, row_places}
use Rattle.table.proofs.CopiedTable.{same_table}
use Rattle.sheet.specs.Reading.{read_sheet, read_into}
use Rattle.records.specs.Records.{read_records}
use Rattle.writer.specs.Replies.{written, bytes_written}
use Rattle.panel.specs.Codes.{number_unit, procs_unit, read_code, reply_code}
use Rattle.panel.proofs.ReadBack.{stored_of_code}
use Rattle.panel.proofs.Unique as panel
use Rattle.panel.proofs.WrittenBack.{length_of_code}
use Rattle.panel.proofs.bushkalote_read_sheet.Reads.{Post as c-read-sheet-post}
use Rattle.panel.proofs.bushkalote_write_sheet.Reads.{Post as c-write-sheet-post}
use Rattle.demands.proofs.RoundTrips.{in_front, stored_of, reads_back, fields_back, writes_back, written_rows_are_read, read_rows_are_written}

-- ---- plain slices

-- `bushkalote_write_sheet` wrote n bytes, and `bushkalote_read_sheet` is given those and places enough.
module _
    (κs a n s : _)
    (wrote : c-write-sheet-post κs a n s)
    (done : n < number_unit)
    (κs' a' k s' : _)
    (took : c-read-sheet-post κs' a' k s')
    (handed : a'.0.now ≡ take n s.1.1.1.1.0.now)
  where
    abbrev t : Table
    t = table_of a.0.now a.1.0.now a.1.1.0.now a.1.1.1.0.now

    -- It stores the same kinds, operands and roots, and its number tells how many.
    pub c_written_is_read :
        rows t ≤ row_places a'.1.0.now a'.1.1.0.now a'.1.1.1.0.now → procs t ≤ length a'.1.1.1.1.0.now
        → (k ≡ rows t + procs_unit * procs t)
        × (s'.1.0.now ≡ laid a.0.now a'.1.0.now)
        × (s'.1.1.0.now ≡ laid a.1.0.now a'.1.1.0.now)
        × (s'.1.1.1.0.now ≡ laid a.1.1.0.now a'.1.1.1.0.now)
        × (s'.1.1.1.1.0.now ≡ laid a.1.1.1.0.now a'.1.1.1.1.0.now)
    c_written_is_read h g =
        let b = a.1.1.1.1.0.now in
        let b' = s.1.1.1.1.0.now in
        let said = length_of_code t (length b) n wrote.0 done in
        let same = ap (read_sheet ours _ _) handed ∙ reads_back t b b' n said wrote.1 _ _ h g in
        let back = fields_back t b b' n said wrote.1 _ same in (
          took.0 ∙ ap read_code back.0,
          took.1.0 ∙ ap (λ (l : List ℕ). laid l a'.1.0.now) back.1,
          took.1.1.0 ∙ ap (λ (l : List ℕ). laid l a'.1.1.0.now) back.2,
          took.1.1.1.0 ∙ ap (λ (l : List ℕ). laid l a'.1.1.1.0.now) back.3,
          took.1.1.1.1 ∙ ap (λ (l : List ℕ). laid l a'.1.1.1.1.0.now) back.4,
        )

-- `bushkalote_read_sheet` gave the number k, and `bushkalote_write_sheet` is given as many rows and procedures as it tells, and bytes enough.
module _
    (κs a k s : _)
    (took : c-read-sheet-post κs a k s)
    (done : k < number_unit)
    (κs' a' n s' : _)
    (wrote : c-write-sheet-post κs' a' n s')
    (kinds : a'.0.now ≡ take (k % procs_unit) s.1.0.now)
    (xs : a'.1.0.now ≡ take (k % procs_unit) s.1.1.0.now)
    (ys : a'.1.1.0.now ≡ take (k % procs_unit) s.1.1.1.0.now)
    (roots : a'.1.1.1.0.now ≡ take (k / procs_unit) s.1.1.1.1.0.now)
  where
    abbrev w : Reading
    w = read_into ours a.0.now a.1.0.now a.1.1.0.now a.1.1.1.0.now a.1.1.1.1.0.now

    stored : (w ≡ table (rows_of w) (roots_of w)) × (length (rows_of w) ≡ k % procs_unit) × (length (roots_of w) ≡ k / procs_unit)
    stored = stored_of w (k % procs_unit) (k / procs_unit) (stored_of_code _ _ a.0.now k took.0 done)

    same : table_of a'.0.now a'.1.0.now a'.1.1.0.now a'.1.1.1.0.now ≡ table_of_rows (rows_of w) (roots_of w)
    same =
        ap (table_of a'.0.now a'.1.0.now a'.1.1.0.now) (roots ∙ in_front (roots_of w) _ _ _ took.1.1.1.1 stored.2)
        ∙ same_table (rows_of w) _ _ _ (roots_of w)
        (kinds ∙ in_front (kinds_of (rows_of w)) _ _ _ took.1.0 (length-map (rows_of w) (λ (row : Row). row.kind) ∙ stored.1))
        (xs ∙ in_front (xs_of (rows_of w)) _ _ _ took.1.1.0 (length-map (rows_of w) (λ (row : Row). row.x) ∙ stored.1))
        (ys ∙ in_front (ys_of (rows_of w)) _ _ _ took.1.1.1.0 (length-map (rows_of w) (λ (row : Row). row.y) ∙ stored.1))

    -- It writes the sheet again, byte for byte, and its number is the sheet's length.
    pub c_read_is_written :
        length a.0.now ≤ length a'.1.1.1.1.0.now
        → (n ≡ length a.0.now) × (s'.1.1.1.1.0.now ≡ laid a.0.now a'.1.1.1.1.0.now)
    c_read_is_written h =
        let back = writes_back _ _ a.0.now a'.1.1.1.1.0.now (rows_of w) (roots_of w) stored.0 h in (
          wrote.0 ∙ ap (λ (u : Table). reply_code (written ours u (length a'.1.1.1.1.0.now))) same ∙ ap reply_code back.0,
          wrote.1 ∙ ap (λ (u : Table). bytes_written ours u a'.1.1.1.1.0.now) same ∙ back.1,
        )

-- ---- row records

pub c_written_rows_are_read :
    (lent : List Row) (roots b : List ℕ) (n : ℕ) (b' : List ℕ) (old : List Row) (oldRoots : List ℕ) (k : ℕ) (new : List Row) (newRoots : List ℕ)
    → panel.Writes lent roots b n b' → n < number_unit → panel.Reads (take n b') old oldRoots k new newRoots
    → length lent ≤ length old → length roots ≤ length oldRoots
    → (k ≡ length lent + procs_unit * length roots) × (new ≡ laid lent old) × (newRoots ≡ laid roots oldRoots)
c_written_rows_are_read lent roots b n b' old oldRoots k new newRoots wrote done took h g =
    let said = length_of_code (table_of_rows lent roots) (length b) n wrote.0 done in
    let back =
    written_rows_are_read lent roots b n b' old oldRoots (reply_of (read_records ours (take n b') old oldRoots)) new newRoots
    (sym said, wrote.1) (refl, took.1, took.2) h g
    in (took.0 ∙ ap read_code back.0, back.1, back.2)

pub c_read_rows_are_written :
    (bytes : List ℕ) (old : List Row) (oldRoots : List ℕ) (k : ℕ) (new : List Row) (newRoots b : List ℕ) (n : ℕ) (b' : List ℕ)
    → panel.Reads bytes old oldRoots k new newRoots → k < number_unit
    → panel.Writes (take (k % procs_unit) new) (take (k / procs_unit) newRoots) b n b' → length bytes ≤ length b
    → (n ≡ length bytes) × (b' ≡ laid bytes b)
c_read_rows_are_written bytes old oldRoots k new newRoots b n b' took done wrote h =
    let told = stored_of_code (length old) (length oldRoots) bytes k took.0 done in
    let back =
    read_rows_are_written bytes old oldRoots (k % procs_unit) (k / procs_unit) new newRoots b
    (written ours (table_of_rows (take (k % procs_unit) new) (take (k / procs_unit) newRoots)) (length b)) b' (sym told, took.1, took.2)
    (refl, wrote.1) h
    in (wrote.0 ∙ ap reply_code back.0, back.1)
