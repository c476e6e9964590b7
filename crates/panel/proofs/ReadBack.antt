-- A caller in C can tell every reply of the analysis, the reader and the listing by its number: a refusal's number is at least 1 and stands above 2^32, and
-- every place, count and length that a reply has is below.
-- Assumes nothing.
use mathlib.Core.Bool.{Bool, true, false, cond}
use mathlib.Core.List.{List, [], ◌∷◌}
use mathlib.Core.Path.{◌≡◌, refl, sym, ap, ap₂, subst}
use Prim.Native.Nat.{ℕ, ◌+◌, ◌*◌, ◌/◌, ◌%◌, ◌≤◌, ◌<◌, min}
use native.Mathlib.Omega.{arith}
use borrow.Author.Tests.{leb-true, leb-false, not-false}
use lib.Dec.{leb}
use lib.ListN.{length, length-append}
use Rattle.std.specs.Prelude.{Result, Ok, Err}
use Rattle.numbers.specs.Sizes.{ours, row_ceiling, sheet_ceiling}
use Rattle.numbers.specs.Refusals.{refusal_number, refusal_place}
use Rattle.numbers.specs.declared.Refusal.{Refusal}
use Rattle.numbers.specs.declared.Refusal.TheVariants.{Sizes, ShortMatrix, UnknownKind, WrongOperand, NoSuchRow, UsedAgain, Unused, LongSheet, WrongForm}
use Rattle.numbers.specs.declared.Refusal.TheVariants.{NoRoom, ShortBytes, LongOperand, LongRoot}
use Rattle.numbers.proofs.Refusals.{refusal_determined}
use Rattle.recipe.specs.Offences.{Refuses}
use Rattle.recipe.specs.Rules.{Rule, sizes_fit, matrix_rule, further_rules, rules_with, judged_with}
use Rattle.recipe.specs.Statements.{program_of}
use Rattle.recipe.specs.Tables.{Table, rows, procs}
use Rattle.recipe.specs.declared.Row.{Row}
use Rattle.recipe.proofs.Judging.{sized}
use Rattle.recipe.proofs.Offences.{refused_with_means}
use Rattle.recipe.proofs.WithMatrix.{admitted_with}
use Rattle.analysis.specs.Replies.{analysed_as, analysed}
use Rattle.sheet.specs.Form.{spell, spelled_row, spelled_root}
use Rattle.sheet.specs.Offences.{Offends, Offence}
use Rattle.sheet.specs.Reading.{read_sheet}
use Rattle.sheet.proofs.Outcomes.{spell_row, spell_root}
use Rattle.sheet.proofs.SheetForms.{refused_where_it_offends}
use Rattle.sheet.proofs.StepLaws.{sheet_too_long}
use Rattle.table.specs.declared.Room.{Room}
use Rattle.table.specs.Reading.{Reading, table, refused, reply_of}
use Rattle.listing.specs.Listing.{longest_listing}
use Rattle.listing.specs.Replies.{listing_of, fitted, listed_as, listed}
use Rattle.listing.proofs.Sizes.{rounds_few, recipe_listing_short}
use Rattle.panel.specs.Codes.{number_unit, procs_unit, refusal_code, reply_code, read_code}
use Rattle.panel.specs.Inner.{WithinCeilings}
use Rattle.panel.proofs.CodeLaws.{reading_within}

-- ---- a refusal

-- Its place is below the unit of its number, and its number is not 15, which a row and a procedure share.
abbrev Near : Refusal → Type 0
Near r = (refusal_place r < number_unit) × (refusal_number r ≡ 15 → ⊥)

pub numbered : (r : Refusal) → 1 ≤ refusal_number r
numbered Sizes = omega arith
numbered ShortMatrix = omega arith
numbered (UnknownKind row) = omega arith
numbered (WrongOperand row) = omega arith
numbered (NoSuchRow proc) = omega arith
numbered (UsedAgain row) = omega arith
numbered (Unused row) = omega arith
numbered LongSheet = omega arith
numbered (WrongForm line) = omega arith
numbered (NoRoom line) = omega arith
numbered ShortBytes = omega arith
numbered (LongOperand row) = omega arith
numbered (LongRoot proc) = omega arith

-- Equal codes have equal numbers and equal places.
pub halves_told :
    (r s : Refusal) → refusal_place r < number_unit → refusal_place s < number_unit → refusal_code r ≡ refusal_code s
    → (refusal_number r ≡ refusal_number s) × (refusal_place r ≡ refusal_place s)
halves_told r s p q e = (omega (arith, p, q, e), omega (arith, p, q, e))

refusals_told : (r s : Refusal) → Near r → Near s → refusal_code r ≡ refusal_code s → r ≡ s
refusals_told r s p q e =
    let same = halves_told r s p.0 q.0 e in refusal_determined r s same.0 same.1 p.1

-- A success is no refusal.
pub success_told : {A : Type 0} (k : ℕ) (r : Refusal) → k < number_unit → k ≡ refusal_code r → A
success_told k r l e = absurd (omega (arith, numbered r, l, e))

-- What rules refuse has a near place, where all their places are near.
abbrev NearBy : List Rule → Type 0
NearBy [] = Unit
NearBy (r ∷ more) = ((i : ℕ) → i < r.places → Near (r.refusal i)) × NearBy more

near_refused : (rules : List Rule) {why : Refusal} → NearBy rules → Refuses rules why → Near why
near_refused [] {why = why} near o = elim o [ ]
near_refused (r ∷ more) near (Refuses.here {i = i} f) = near.0 i f.there
near_refused (r ∷ more) near (Refuses.later none o) = near_refused more near.1 o

-- What the judge refuses has a place in the table.
near_judged : (t : Table) (words : ℕ) (r : Refusal) → judged_with ours t words ≡ Err r → Near r
near_judged t words r e = go (refused_with_means ours t r words e)
  where
    go : {why : Refusal} → Refuses (rules_with ours t words) why → Near why
    go (Refuses.here f) = (omega arith, λ e. omega arith)
    go (Refuses.later none o) =
        let right = sized ours (rows t) (length t.xs) (length t.ys) (procs t) (not-false (sizes_fit ours t) (none 0 (omega arith))) in
        let row : (i : ℕ) → i < rows t → i < number_unit = λ i h. omega (arith, right.few_rows_lem) in
        let proc : (f : ℕ) → f < procs t → f < number_unit = λ f h. omega (arith, right.few_procs_lem) in
        near_refused (matrix_rule ours words ∷ further_rules ours t) (
          λ i h. (omega arith, λ e. omega arith),
          (
            λ i h. (row i h, λ e. omega arith),
            (
              λ i h. (row i h, λ e. omega arith),
              (λ f h. (proc f h, λ e. omega arith), (λ i h. (row i h, λ e. omega arith), (λ i h. (row i h, λ e. omega arith), tt))),
            ),
          ),
        ) o

-- ---- the analysis and the listing

abbrev Fits : Result ℕ Refusal → Type 0
Fits (Ok k) = k < number_unit
Fits (Err r) = Near r

replies_told : (x y : Result ℕ Refusal) → Fits x → Fits y → reply_code x ≡ reply_code y → x ≡ y
replies_told (Ok k) (Ok l) p q e = ap Ok e
replies_told (Ok k) (Err s) p q e = success_told k s p e
replies_told (Err r) (Ok l) p q e = success_told l r q (sym e)
replies_told (Err r) (Err s) p q e = ap Err (refusals_told r s p q e)

analysed_fits : (t : Table) (words : ℕ) → Fits (analysed ours t words)
unfolding analysed
analysed_fits t words = go (judged_with ours t words) refl
  where
    go : (j : Result Unit Refusal) → judged_with ours t words ≡ j → Fits (analysed_as ours (program_of t) j)
    go (Ok _) e = omega (arith, rounds_few t (admitted_with ours t words e).0)
    go (Err r) e = near_judged t words r e

listed_fits : (t : Table) (words room : ℕ) → Fits (listed ours t words room)
unfolding listed fitted
listed_fits t words room = go (judged_with ours t words) refl
  where
    text : (b : Bool) → length (listing_of ours (program_of t)) ≤ longest_listing
        → Fits (cond b (Ok (length (listing_of ours (program_of t)))) (Err ShortBytes))
    text true h = omega (arith, h)
    text false h = (omega arith, λ e. omega arith)

    go : (j : Result Unit Refusal) → judged_with ours t words ≡ j → Fits (listed_as ours (program_of t) room j)
    go (Ok _) e = text (leb (length (listing_of ours (program_of t))) room) (recipe_listing_short t (admitted_with ours t words e).0)
    go (Err r) e = near_judged t words r e

-- ---- the readers

-- Each line has a byte at least.
lines_have_bytes : (rows : List Row) (roots : List ℕ) → length rows + length roots ≤ length (spell rows roots)
unfolding spelled_row spelled_root
lines_have_bytes [] [] = omega arith
lines_have_bytes [] (root ∷ roots) =
    omega (arith, lines_have_bytes [] roots, ap length (spell_root root roots), length-append (spelled_root root) (spell [] roots))
lines_have_bytes (row ∷ rows) roots =
    omega (arith, lines_have_bytes rows roots, ap length (spell_row row rows roots), length-append (spelled_row row) (spell rows roots))

near_offence : (R P : ℕ) (bytes : List ℕ) (why : Refusal) → length bytes ≤ sheet_ceiling → Offence R P bytes why → Near why
near_offence R P bytes why h o = go o.offends
  where
    near : length o.rows + length o.roots < number_unit
    near =
        omega (arith, h, lines_have_bytes o.rows o.roots, ap length o.spelled, length-append (spell o.rows o.roots) o.rest)

    go : {r : Refusal} → Offends R P o.rows o.roots o.rest (length o.rows + length o.roots) r → Near r
    go (Offends.misformed l) = (near, λ e. omega arith)
    go (Offends.late l z) = (near, λ e. omega arith)
    go (Offends.row_lacks l z n) = (near, λ e. omega arith)
    go (Offends.root_lacks l n) = (near, λ e. omega arith)

abbrev FitsRead : Result Room Refusal → Type 0
FitsRead (Ok kept) = (kept.rows ≤ row_ceiling) × (kept.roots ≤ ours.procs)
FitsRead (Err r) = Near r

near_read : (R P : ℕ) (bytes : List ℕ) (why : Refusal) → read_sheet ours R P bytes ≡ refused why → Near why
near_read R P bytes why e = go (leb (length bytes) sheet_ceiling) refl
  where
    go : (b : Bool) → leb (length bytes) sheet_ceiling ≡ b → Near why
    go true p =
        let short = leb-true (length bytes) sheet_ceiling p in
        near_offence (min row_ceiling R) (min ours.procs P) bytes why short (refused_where_it_offends ours R P bytes why short e)
    go false p =
        let s : LongSheet ≡ why = cc (sheet_too_long ours R P bytes (leb-false (length bytes) sheet_ceiling p)) in subst Near s (omega arith, λ e. omega arith)

read_fits : (R P : ℕ) (bytes : List ℕ) → FitsRead (reply_of (read_sheet ours R P bytes))
read_fits R P bytes = go (read_sheet ours R P bytes) refl
  where
    go : (w : Reading) → read_sheet ours R P bytes ≡ w → FitsRead (reply_of w)
    go (table rows roots) e = subst (λ (w : Reading). WithinCeilings (reply_of w)) e (reading_within R P bytes)
    go (refused why) e = near_read R P bytes why e

read_told : (x y : Result Room Refusal) → FitsRead x → FitsRead y → read_code x ≡ read_code y → x ≡ y
read_told (Ok n) (Ok k) p q e =
    let rows : n.rows ≡ k.rows = omega (arith, p.0, q.0, e) in
    let roots : n.roots ≡ k.roots = omega (arith, p.0, q.0, e) in ap₂ (λ (i j : ℕ). Ok (record { rows = i; roots = j })) rows roots
read_told (Ok n) (Err s) p q e = success_told (n.rows + procs_unit * n.roots) s (omega (arith, p.0, p.1)) e
read_told (Err r) (Ok k) p q e = success_told (k.rows + procs_unit * k.roots) r (omega (arith, q.0, q.1)) (sym e)
read_told (Err r) (Err s) p q e = ap Err (refusals_told r s p q e)

-- ---- equal numbers are equal replies

pub analysis_told : (t u : Table) (v w : ℕ) → reply_code (analysed ours t v) ≡ reply_code (analysed ours u w) → analysed ours t v ≡ analysed ours u w
analysis_told t u v w = replies_told (analysed ours t v) (analysed ours u w) (analysed_fits t v) (analysed_fits u w)

pub listing_told :
    (t u : Table) (v w a b : ℕ) → reply_code (listed ours t v a) ≡ reply_code (listed ours u w b) → listed ours t v a ≡ listed ours u w b
listing_told t u v w a b = replies_told (listed ours t v a) (listed ours u w b) (listed_fits t v a) (listed_fits u w b)

pub reading_told :
    (R P Q S : ℕ) (a b : List ℕ) → read_code (reply_of (read_sheet ours R P a)) ≡ read_code (reply_of (read_sheet ours Q S b))
    → reply_of (read_sheet ours R P a) ≡ reply_of (read_sheet ours Q S b)
reading_told R P Q S a b =
    read_told (reply_of (read_sheet ours R P a)) (reply_of (read_sheet ours Q S b)) (read_fits R P a) (read_fits Q S b)

-- A number below the unit of a refusal is that of rows and, above them, procedures.
pub stored_of_code :
    (R P : ℕ) (bytes : List ℕ) (k : ℕ) → k ≡ read_code (reply_of (read_sheet ours R P bytes)) → k < number_unit
    → reply_of (read_sheet ours R P bytes) ≡ Ok (record { rows = k % procs_unit; roots = k / procs_unit })
stored_of_code R P bytes k e h = go (reply_of (read_sheet ours R P bytes)) (read_fits R P bytes) e
  where
    go : (x : Result Room Refusal) → FitsRead x → k ≡ read_code x → x ≡ Ok (record { rows = k % procs_unit; roots = k / procs_unit })
    go (Ok n) fits c =
        let rows : n.rows ≡ k % procs_unit = omega (arith, fits.0, fits.1, c) in
        let roots : n.roots ≡ k / procs_unit = omega (arith, fits.0, fits.1, c) in
        ap₂ (λ (i j : ℕ). Ok (record { rows = i; roots = j })) rows roots
    go (Err r) fits c = success_told k r h c
