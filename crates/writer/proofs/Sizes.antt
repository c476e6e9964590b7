-- No sheet that can be written at our size is longer than the longest, since a row's line has at most 19 bytes and a procedure's at most 7;
-- and a table of such lines alone has one as long. Assumes nothing.
use mathlib.Core.List.{List, [], ◌∷◌, ◌++◌, flat_map}
use mathlib.Core.Path.{◌≡◌, refl, ap, ◌∙◌}
use Prim.Native.Nat.{ℕ, zero, suc, ◌+◌, ◌*◌, ◌≤◌, ◌<◌}
use native.Mathlib.Nat.{le_refl}
use native.Mathlib.Omega.{arith}
use lib.ListN.{length, length-append, replicate, length-replicate}
use Rattle.std.specs.Prelude.{Ok, Err}
use Rattle.std.proofs.lemmas.Grind.{common_steps}
use Rattle.std.proofs.lemmas.List.Folds.{sum_by-replicate}
use Rattle.numbers.specs.Sizes.{ours, row_ceiling}
use Rattle.numbers.specs.declared.Refusal.TheVariants.{ShortBytes}
use Rattle.recipe.specs.Offences.{KeepsRules}
use Rattle.recipe.specs.Records.{table_of_rows}
use Rattle.recipe.specs.Tables.{Table}
use Rattle.recipe.specs.declared.Row.{Row}
use Rattle.recipe.proofs.Offences.{keeps_of}
use Rattle.sheet.specs.Form.{keyword, spelled_row, spelled_root, spell, Short, ShortRow, Every}
use Rattle.text.specs.Bytes.{ascii}
use Rattle.text.specs.Numbers.{spelled_in, spelled}
use Rattle.text.proofs.LineLaws.{length_first, length_ended}
use Rattle.text.proofs.SpelledLaws.{spelled_four}
use Rattle.writer.specs.Inner.{IsWritable}
use Rattle.writer.specs.Replies.{written}
use Rattle.writer.specs.Rules.{table_rules}
use Rattle.writer.specs.Sheets.{records_of, sheet_of, longest_sheet}
use Rattle.writer.proofs.Kept.{kept, records_keep}
use Rattle.writer.proofs.Records.{as_many_records, records_again}
use Rattle.writer.proofs.SheetLaws.{length_lines}
use Rattle.writer.proofs.Refusing.{kept_written, kept_refused, room_told}

-- ---- a line

keyword_short : (kind : ℕ) → length (keyword kind) ≤ 6
keyword_short kind = grind (arith, common_steps)

pub row_line_short : (row : Row) → ShortRow row → length (spelled_row row) ≤ 19
unfolding spelled_row
row_line_short row short =
    let name = keyword row.kind in
    let x = spelled row.x in
    let y = spelled row.y in
    omega (
      arith,
      length_first (ascii "R") name (x ∷ y ∷ []),
      length_first name x (y ∷ []),
      length_first x y [],
      length_ended y 10,
      keyword_short row.kind,
      spelled_four row.x (omega (arith, short.x)),
      spelled_four row.y (omega (arith, short.y)),
    )

pub root_line_short : (root : ℕ) → Short root → length (spelled_root root) ≤ 7
unfolding spelled_root
root_line_short root short =
    omega (arith, length_first (ascii "P") (spelled root) [], length_ended (spelled root) 10, spelled_four root (omega arith))

-- ---- lines one behind the other

module _ {A : Type 0} (f : A → List ℕ) where
  lines_short :
      (P : A → Type 0) (most : ℕ) → ((a : A) → P a → length (f a) ≤ most) → (l : List A) → Every P l
      → length (flat_map f l) ≤ most * length l
  unfolding flat_map
  lines_short P most each [] e = omega arith
  lines_short P most each (a ∷ l) e =
      omega (arith, length-append (f a) (flat_map f l), each a e.0, lines_short P most each l e.1)

  lines_alike : (n : ℕ) (a : A) → length (flat_map f (replicate n a)) ≡ n * length (f a)
  lines_alike n a = length_lines f (replicate n a) ∙ sum_by-replicate (λ (b : A). length (f b)) n a

-- ---- a sheet

pub sheet_short : (t : Table) → KeepsRules (table_rules ours t) → length (sheet_of t) ≤ longest_sheet
unfolding sheet_of spell
sheet_short t k =
    let facts = kept ours t k in
    let row_lines = flat_map spelled_row (records_of t) in
    let rootLines = flat_map spelled_root t.roots in
    omega (
      arith,
      length-append row_lines rootLines,
      lines_short spelled_row ShortRow 19 row_line_short (records_of t) facts.rows_short,
      lines_short spelled_root Short 7 root_line_short t.roots facts.roots_short,
      as_many_records t,
      facts.few_rows,
      facts.few_procs,
    )

-- The same of a table that the writer's judge admits.
pub writable_short : (t : Table) → IsWritable ours t → length (sheet_of t) ≤ longest_sheet
writable_short t ok = sheet_short t (keeps_of (table_rules ours t) ok)

-- With room for the longest sheet, every table that keeps the rules is written.
pub room_enough :
    (t : Table) (room : ℕ) → KeepsRules (table_rules ours t) → longest_sheet ≤ room → written ours t room ≡ Ok (length (sheet_of t))
room_enough t room k enough = kept_written ours t room k (omega (arith, sheet_short t k))

-- And no table at all gets 14.
pub never_short : (t : Table) (room : ℕ) → longest_sheet ≤ room → written ours t room ≡ Err ShortBytes → ⊥
never_short t room enough e = let told = room_told ours t room e in absurd (omega (arith, told.1, sheet_short t told.0, enough))

-- ---- the longest

-- A row with the longest line.
unfoldable pub long_row : Row
long_row = record { kind = 5; x = 9999; y = 9999 }

-- As many rows and procedures with the longest lines.
unfoldable pub long_table : ℕ → ℕ → Table
long_table rows procs = table_of_rows (replicate rows long_row) (replicate procs 9999)

alike_all : {A : Type 0} (P : A → Type 0) (n : ℕ) (a : A) → P a → Every P (replicate n a)
alike_all P zero a p = tt
alike_all P (suc n) a p = (p, alike_all P n a p)

long_line : length (spelled_row long_row) ≡ 19
unfolding long_row spelled_row spelled spelled_in
long_line = refl

long_root : length (spelled_root 9999) ≡ 7
unfolding spelled_root spelled spelled_in
long_root = refl

long_short : ShortRow long_row
unfolding long_row
long_short = record { kind = omega arith; x = le_refl 9999; y = le_refl 9999 }

long_keeps : (n m : ℕ) → n ≤ row_ceiling → m ≤ ours.procs → KeepsRules (table_rules ours (long_table n m))
unfolding long_table
long_keeps n m h g =
    records_keep ours (replicate n long_row) (replicate m 9999) (omega (arith, length-replicate n long_row))
    (omega (arith, length-replicate {A = ℕ} m 9999)) (alike_all ShortRow n long_row long_short) (alike_all Short m 9999 (le_refl 9999))

long_sheet : (n m : ℕ) → length (sheet_of (long_table n m)) ≡ n * 19 + m * 7
unfolding long_table sheet_of spell
long_sheet n m =
    ap (λ (l : List Row). length (flat_map spelled_row l ++ flat_map spelled_root (replicate m 9999)))
    (records_again (replicate n long_row) (replicate m 9999))
    ∙ length-append (flat_map spelled_row (replicate n long_row)) (flat_map spelled_root (replicate m 9999))
    ∙ ap (λ (k : ℕ). k + length (flat_map spelled_root (replicate m 9999))) (lines_alike spelled_row n long_row ∙ ap (◌*◌ n) long_line)
    ∙ ap (◌+◌ (n * 19)) (lines_alike spelled_root m 9999 ∙ ap (◌*◌ m) long_root)

-- The longest sheet there is, of 1,024 rows and 64 procedures: so no less room is enough.
pub longest_there_is :
    KeepsRules (table_rules ours (long_table row_ceiling ours.procs)) × (length (sheet_of (long_table row_ceiling ours.procs)) ≡ longest_sheet)
longest_there_is = (long_keeps row_ceiling ours.procs (le_refl row_ceiling) (le_refl ours.procs), long_sheet row_ceiling ours.procs)

pub longest_needs_its_room : (room : ℕ) → room < longest_sheet → written ours (long_table row_ceiling ours.procs) room ≡ Err ShortBytes
longest_needs_its_room room short =
    kept_refused ours (long_table row_ceiling ours.procs) room longest_there_is.0 (omega (arith, longest_there_is.1))
