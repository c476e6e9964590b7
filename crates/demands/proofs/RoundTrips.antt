-- What is written is read back the same, and what is read is written back byte for byte, by the contracts of the functions that ship: the writer and the
-- reader go by one form. `Post` is a contract itself; `Writes` and `Reads` are what the contracts on records state (`writer` and `records`,
-- proofs/Unique.antt). Assumes nothing.
use mathlib.Core.Path.{◌≡◌, sym, ap, ap₂, ◌∙◌}
use mathlib.Core.List.{List}
use Prim.Native.Nat.{ℕ, ◌≤◌}
use native.Mathlib.Omega.{arith}
use lib.ListN.{length, take, drop, length-map}
use lib.Seq.{take_at}
use Rattle.std.specs.Prelude.{Result, Ok}
use Rattle.numbers.specs.declared.Refusal.{Refusal}
use Rattle.table.specs.declared.Room.{Room}
use Rattle.numbers.specs.General.{laid}
use Rattle.numbers.specs.Sizes.{ours}
use Rattle.recipe.specs.Records.{kinds_of, xs_of, ys_of, table_of_rows}
use Rattle.recipe.specs.Tables.{Table, table_of, lists_of, rows, procs}
use Rattle.recipe.specs.declared.Row.{Row}
use Rattle.table.specs.Reading.{Reading, table, rows_of, roots_of, reply_of, row_places}
use Rattle.table.proofs.CopiedTable.{same_table}
use Rattle.table.proofs.Replies.{table_of_lem}
use Rattle.sheet.specs.Reading.{read_sheet, read_into}
use Rattle.sheet.proofs.read_sheet.Reads.{Post as read-sheet-post}
use Rattle.records.specs.Inner.{Reads}
use Rattle.records.specs.Records.{read_records}
use Rattle.writer.specs.Inner.{Writes}
use Rattle.writer.specs.Replies.{written, bytes_written}
use Rattle.writer.specs.Sheets.{records_of, sheet_of}
use Rattle.writer.proofs.Kept.{kept}
use Rattle.writer.proofs.Records.{as_many_records, records_again, kinds_again, xs_again, ys_again}
use Rattle.writer.proofs.Refusing.{length_exact, written_held}
use Rattle.writer.proofs.RoundTrips.{table_keeps, spelled_back, sheet_again, written_again}
use Rattle.writer.proofs.write_sheet.Reads.{Post as write-sheet-post}

-- What was laid over some list stands in front.
pub in_front : {A : Type 0} (new old later : List A) (n : ℕ) → later ≡ laid new old → length new ≡ n → take n later ≡ new
in_front new old later n e h = ap (take n) e ∙ take_at new (drop (length new) old) n h

-- ---- on definitions

-- The sheet that was written, read with room enough: the table's rows and roots.
module _ (t : Table) (b b' : List ℕ) (n : ℕ) (done : written ours t (length b) ≡ Ok n) (after : b' ≡ bytes_written ours t b) where
  pub sheet_in_front : take n b' ≡ sheet_of t
  sheet_in_front = in_front (sheet_of t) b b' n (after ∙ written_held ours t b n done) (sym (length_exact ours t (length b) n done).0)

  pub reads_back :
      (rowsLent rootsLent : ℕ) → rows t ≤ rowsLent → procs t ≤ rootsLent
      → read_sheet ours rowsLent rootsLent (take n b') ≡ table (records_of t) t.roots
  reads_back rowsLent rootsLent h g =
      ap (read_sheet ours rowsLent rootsLent) sheet_in_front ∙ spelled_back rowsLent rootsLent t (length b) n done h g

  -- What was read then is the table: its sizes and its four lists.
  pub fields_back :
      (w : Reading) → w ≡ table (records_of t) t.roots
      → (reply_of w ≡ Ok (record { rows = rows t; roots = procs t }))
      × (kinds_of (rows_of w) ≡ t.kinds)
      × (xs_of (rows_of w) ≡ t.xs)
      × (ys_of (rows_of w) ≡ t.ys)
      × (roots_of w ≡ t.roots)
  fields_back w e =
      let facts = kept ours t (table_keeps ours t (length b) n done) in (
        ap reply_of e ∙ ap (λ (k : ℕ). Ok (record { rows = k; roots = procs t })) (as_many_records t),
        ap (λ (v : Reading). kinds_of (rows_of v)) e ∙ kinds_again t,
        ap (λ (v : Reading). xs_of (rows_of v)) e ∙ xs_again t facts.xs_whole,
        ap (λ (v : Reading). ys_of (rows_of v)) e ∙ ys_again t facts.ys_whole,
        ap roots_of e,
      )

-- The table that was read, written where the sheet has room: the sheet.
pub writes_back :
    (rowsLent rootsLent : ℕ) (bytes b : List ℕ) (lent : List Row) (roots : List ℕ) → read_sheet ours rowsLent rootsLent bytes ≡ table lent roots
    → length bytes ≤ length b
    → (written ours (table_of_rows lent roots) (length b) ≡ Ok (length bytes)) × (bytes_written ours (table_of_rows lent roots) b ≡ laid bytes b)
writes_back rowsLent rootsLent bytes b lent roots e h =
    let said = written_again rowsLent rootsLent bytes lent roots e (length b) h in (
      said,
      written_held ours (table_of_rows lent roots) b (length bytes) said
          ∙ ap (λ (s : List ℕ). laid s b) (sheet_again rowsLent rootsLent bytes lent roots e),
    )

-- A reply of n rows and m roots comes of so many.
pub stored_of :
    (w : Reading) (n m : ℕ) → reply_of w ≡ Ok (record { rows = n; roots = m })
    → (w ≡ table (rows_of w) (roots_of w)) × (length (rows_of w) ≡ n) × (length (roots_of w) ≡ m)
stored_of w n m e =
    let told = table_of_lem w (record { rows = n; roots = m }) e in
    (told.0, ap (λ (k : Room). k.rows) told.1, ap (λ (k : Room). k.roots) told.1)

-- ---- plain slices

-- `write_sheet` wrote a sheet of n bytes, and `read_sheet` is given those bytes and places enough.
module _
    (κs a r s : _)
    (wrote : write-sheet-post κs a r s)
    (n : ℕ)
    (done : r ≡ Ok n)
    (κs' a' r' s' : _)
    (took : read-sheet-post κs' a' r' s')
    (handed : a'.0.now ≡ take n s.1.0.now)
  where
    abbrev t : Table
    t = lists_of a.0.now

    said : written ours t (length a.1.0.now) ≡ Ok n
    said = sym wrote.0 ∙ done

    -- It stores the same kinds, operands and roots, and what lies beyond stays.
    pub written_is_read :
        rows t ≤ row_places a'.1.0.now a'.1.1.0.now a'.1.1.1.0.now → procs t ≤ length a'.1.1.1.1.0.now
        → (r' ≡ Ok (record { rows = rows t; roots = procs t }))
        × (s'.1.0.now ≡ laid t.kinds a'.1.0.now)
        × (s'.1.1.0.now ≡ laid t.xs a'.1.1.0.now)
        × (s'.1.1.1.0.now ≡ laid t.ys a'.1.1.1.0.now)
        × (s'.1.1.1.1.0.now ≡ laid t.roots a'.1.1.1.1.0.now)
    written_is_read h g =
        let b = a.1.0.now in
        let b' = s.1.0.now in
        let same = ap (read_sheet ours _ _) handed ∙ reads_back t b b' n said wrote.1 _ _ h g in
        let back = fields_back t b b' n said wrote.1 _ same in (
          took.0 ∙ back.0,
          took.1.0 ∙ ap (λ (l : List ℕ). laid l a'.1.0.now) back.1,
          took.1.1.0 ∙ ap (λ (l : List ℕ). laid l a'.1.1.0.now) back.2,
          took.1.1.1.0 ∙ ap (λ (l : List ℕ). laid l a'.1.1.1.0.now) back.3,
          took.1.1.1.1 ∙ ap (λ (l : List ℕ). laid l a'.1.1.1.1.0.now) back.4,
        )

-- `read_sheet` stored n rows and m roots, and `write_sheet` is given those and bytes enough.
module _
    (κs a r s : _)
    (took : read-sheet-post κs a r s)
    (n m : ℕ)
    (done : r ≡ Ok (record { rows = n; roots = m }))
    (κs' a' r' s' : _)
    (wrote : write-sheet-post κs' a' r' s')
    (kinds : a'.0.now.kinds.now ≡ take n s.1.0.now)
    (xs : a'.0.now.xs.now ≡ take n s.1.1.0.now)
    (ys : a'.0.now.ys.now ≡ take n s.1.1.1.0.now)
    (roots : a'.0.now.roots.now ≡ take m s.1.1.1.1.0.now)
  where
    abbrev w : Reading
    w = read_into ours a.0.now a.1.0.now a.1.1.0.now a.1.1.1.0.now a.1.1.1.1.0.now

    stored : (w ≡ table (rows_of w) (roots_of w)) × (length (rows_of w) ≡ n) × (length (roots_of w) ≡ m)
    stored = stored_of w n m (sym took.0 ∙ done)

    same : lists_of a'.0.now ≡ table_of_rows (rows_of w) (roots_of w)
    same =
        ap (table_of a'.0.now.kinds.now a'.0.now.xs.now a'.0.now.ys.now) (roots ∙ in_front (roots_of w) _ _ m took.1.1.1.1 stored.2)
        ∙ same_table (rows_of w) _ _ _ (roots_of w)
        (kinds ∙ in_front (kinds_of (rows_of w)) _ _ n took.1.0 (length-map (rows_of w) (λ (row : Row). row.kind) ∙ stored.1))
        (xs ∙ in_front (xs_of (rows_of w)) _ _ n took.1.1.0 (length-map (rows_of w) (λ (row : Row). row.x) ∙ stored.1))
        (ys ∙ in_front (ys_of (rows_of w)) _ _ n took.1.1.1.0 (length-map (rows_of w) (λ (row : Row). row.y) ∙ stored.1))

    -- It writes the sheet again, byte for byte, and what lies beyond stays.
    pub read_is_written :
        length a.0.now ≤ length a'.1.0.now
        → (r' ≡ Ok (length a.0.now)) × (s'.1.0.now ≡ laid a.0.now a'.1.0.now)
    read_is_written h =
        let back = writes_back _ _ a.0.now a'.1.0.now (rows_of w) (roots_of w) stored.0 h in (
          wrote.0 ∙ ap (λ (u : Table). written ours u (length a'.1.0.now)) same ∙ back.0,
          wrote.1 ∙ ap (λ (u : Table). bytes_written ours u a'.1.0.now) same ∙ back.1,
        )

-- ---- row records

-- `write_rows` wrote a sheet of n bytes, and `read_rows` is given those bytes and places enough: it stores the same rows and roots.
pub written_rows_are_read :
    (lent : List Row) (roots b : List ℕ) (n : ℕ) (b' : List ℕ) (old : List Row) (oldRoots : List ℕ) (r : Result Room Refusal) (new : List Row) (newRoots : List ℕ)
    → Writes ours (table_of_rows lent roots) b (Ok n) b' → Reads ours (take n b') old oldRoots r new newRoots
    → length lent ≤ length old → length roots ≤ length oldRoots
    → (r ≡ Ok (record { rows = length lent; roots = length roots })) × (new ≡ laid lent old) × (newRoots ≡ laid roots oldRoots)
written_rows_are_read lent roots b n b' old oldRoots r new newRoots wrote took h g =
    let t = table_of_rows lent roots in
    let same : read_records ours (take n b') old oldRoots ≡ table lent roots =
    reads_back t b b' n (sym wrote.0) wrote.1 (length old) (length oldRoots) (omega (arith, length-map lent (λ (row : Row). row.kind))) g
    ∙ ap (λ (l : List Row). table l roots) (records_again lent roots)
    in (
      took.0 ∙ ap reply_of same,
      took.1 ∙ ap (λ (w : Reading). laid (rows_of w) old) same,
      took.2 ∙ ap (λ (w : Reading). laid (roots_of w) oldRoots) same,
    )

-- `read_rows` stored n rows and m roots, and `write_rows` is given those and bytes enough: it writes the sheet again, byte for byte.
pub read_rows_are_written :
    (bytes : List ℕ) (old : List Row) (oldRoots : List ℕ) (n m : ℕ) (new : List Row) (newRoots b : List ℕ) (r : Result ℕ Refusal) (b' : List ℕ)
    → Reads ours bytes old oldRoots (Ok (record { rows = n; roots = m })) new newRoots → Writes ours (table_of_rows (take n new) (take m newRoots)) b r b'
    → length bytes ≤ length b → (r ≡ Ok (length bytes)) × (b' ≡ laid bytes b)
read_rows_are_written bytes old oldRoots n m new newRoots b r b' took wrote h =
    let w = read_records ours bytes old oldRoots in
    let stored = stored_of w n m (sym took.0) in
    let same : table_of_rows (take n new) (take m newRoots) ≡ table_of_rows (rows_of w) (roots_of w) =
    ap₂ table_of_rows (in_front (rows_of w) old new n took.1 stored.1) (in_front (roots_of w) oldRoots newRoots m took.2 stored.2)
    in
    let back = writes_back (length old) (length oldRoots) bytes b (rows_of w) (roots_of w) stored.0 h in (
      wrote.0 ∙ ap (λ (u : Table). written ours u (length b)) same ∙ back.0,
      wrote.1 ∙ ap (λ (u : Table). bytes_written ours u b) same ∙ back.1,
    )
