-- The entries on records and the entries on slices agree: the contracts of both name the same table, or the same reading, so replies and later contents that
-- meet them are equal.
-- Assumes nothing.
use mathlib.Core.Path.{◌≡◌, sym, ap, ◌∙◌}
use mathlib.Core.List.{List, map}
use Prim.Native.Nat.{ℕ, min}
use lib.ListN.{length, take, drop, length-map}
use lib.Seq.{take_at, take-append_seam}
use Rattle.std.specs.Prelude.{Result}
use Rattle.numbers.specs.General.{laid}
use Rattle.numbers.specs.Sizes.{ours}
use Rattle.numbers.specs.declared.Refusal.{Refusal}
use Rattle.recipe.specs.Tables.{Table}
use Rattle.recipe.specs.declared.Row.{Row}
use Rattle.analysis.specs.Replies.{analysed, matrix_after}
use Rattle.analysis.proofs.analyse.Reads.{Post as analyse-post}
use Rattle.listing.specs.Replies.{listed, matrix_listed, bytes_listed}
use Rattle.listing.proofs.list_pairs.Reads.{Post as list-pairs-post}
use Rattle.recipe.specs.Records.{kinds_of, xs_of, ys_of}
use Rattle.table.specs.Reading.{Reading, rows_of, roots_of, reply_of}
use Rattle.table.specs.declared.Room.{Room}
use Rattle.table.proofs.CopiedTable.{same_table}
use Rattle.sheet.specs.Reading.{read_sheet}
use Rattle.sheet.proofs.read_sheet.Reads.{Post as read-sheet-post}
use Rattle.records.specs.Records.{read_records}
use Rattle.records.specs.Inner.{Answers, Lists, Reads}

-- `analyse-post` is the contract of the entry on a table in lent slices, `Answers` that of the entry on records.
pub entries_agree :
    (κs a r s : _) (rows : List Row) (r' : Result ℕ Refusal) (m' : List ℕ) → analyse-post κs a r s
    → let t = a.0.now in t.kinds.now ≡ kinds_of rows → t.xs.now ≡ xs_of rows → t.ys.now ≡ ys_of rows
    → Answers ours rows t.roots.now a.1.0.now r' m'
    → (r ≡ r') × (s.1.0.now ≡ m')
entries_agree κs a r s rows r' m' slices p q t records =
    let same = same_table rows a.0.now.kinds.now a.0.now.xs.now a.0.now.ys.now a.0.now.roots.now p q t in
    let m = a.1.0.now in (
      slices.0 ∙ ap (λ (u : Table). analysed ours u (length m)) same ∙ sym records.0,
      slices.1 ∙ ap (λ (u : Table). matrix_after ours u m) same ∙ sym records.1,
    )

-- `list-pairs-post` is the contract of the listing of a table in lent slices, `Lists` that of the listing on records.
pub listings_agree :
    (κs a r s : _) (rows : List Row) (r' : Result ℕ Refusal) (m' b' : List ℕ) → list-pairs-post κs a r s
    → let t = a.0.now in t.kinds.now ≡ kinds_of rows → t.xs.now ≡ xs_of rows → t.ys.now ≡ ys_of rows
    → Lists ours rows t.roots.now a.1.0.now a.1.1.0.now r' m' b'
    → (r ≡ r') × (s.1.0.now ≡ m') × (s.1.1.0.now ≡ b')
listings_agree κs a r s rows r' m' b' slices p q t records =
    let same = same_table rows a.0.now.kinds.now a.0.now.xs.now a.0.now.ys.now a.0.now.roots.now p q t in
    let m = a.1.0.now in
    let b = a.1.1.0.now in (
      slices.0 ∙ ap (λ (u : Table). listed ours u (length m) (length b)) same ∙ sym records.0,
      slices.1.0 ∙ ap (λ (u : Table). matrix_listed ours u m (length b)) same ∙ sym records.1,
      slices.1.1 ∙ ap (λ (u : Table). bytes_listed ours u (length m) b) same ∙ sym records.2,
    )

-- Where rows were laid over records, and one of their fields over numbers, the first numbers are that field of the first records.
same_field :
    (field : Row → ℕ) (read rows rows' : List Row) (old new : List ℕ) → new ≡ laid (map field read) old → rows' ≡ laid read rows
    → take (length read) new ≡ map field (take (length read) rows')
same_field field read rows rows' old new p q =
    ap (take (length read)) p
    ∙ take_at (map field read) (drop (length (map field read)) old) (length read) (length-map read field)
    ∙ sym (ap (map field) (ap (take (length read)) q ∙ take-append_seam read (drop (length read) rows)))

-- `read-sheet-post` is the contract of the reader into slices, `Reads` that of the reader into records.
pub readers_agree :
    (κs a r s : _) (rows rows' : List Row) (r' : Result Room Refusal) (roots' : List ℕ) → read-sheet-post κs a r s
    → min (length a.1.0.now) (min (length a.1.1.0.now) (length a.1.1.1.0.now)) ≡ length rows
    → Reads ours a.0.now rows a.1.1.1.1.0.now r' rows' roots'
    → let n = length (rows_of (read_records ours a.0.now rows a.1.1.1.1.0.now)) in
    (r ≡ r')
    × (take n s.1.0.now ≡ kinds_of (take n rows'))
    × (take n s.1.1.0.now ≡ xs_of (take n rows'))
    × (take n s.1.1.1.0.now ≡ ys_of (take n rows'))
    × (s.1.1.1.1.0.now ≡ roots')
readers_agree κs a r s rows rows' r' roots' slices shortest records =
    let roots = a.1.1.1.1.0.now in
    let read = rows_of (read_records ours a.0.now rows roots) in
    let same = ap (λ (k : ℕ). read_sheet ours k (length roots) a.0.now) shortest in (
      slices.0 ∙ ap reply_of same ∙ sym records.0,
      same_field (λ (row : Row). row.kind) read rows rows' a.1.0.now s.1.0.now
          (slices.1.0 ∙ ap (λ (w : Reading). laid (kinds_of (rows_of w)) a.1.0.now) same) records.1,
      same_field (λ (row : Row). row.x) read rows rows' a.1.1.0.now s.1.1.0.now
          (slices.1.1.0 ∙ ap (λ (w : Reading). laid (xs_of (rows_of w)) a.1.1.0.now) same) records.1,
      same_field (λ (row : Row). row.y) read rows rows' a.1.1.1.0.now s.1.1.1.0.now
          (slices.1.1.1.0 ∙ ap (λ (w : Reading). laid (ys_of (rows_of w)) a.1.1.1.0.now) same) records.1,
      slices.1.1.1.1 ∙ ap (λ (w : Reading). laid (roots_of w) roots) same ∙ sym records.2,
    )
