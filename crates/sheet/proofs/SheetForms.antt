-- The reader accepts exactly the sheets of the form and refuses exactly where a line first offends: what its lines come to is what the sheet comes to,
-- and what is spelled before the end, or before a line that offends, is passed.
-- Assumes nothing.
use mathlib.Core.Path.{◌≡◌, refl, sym, ap, ◌∙◌, subst}
use mathlib.Core.Logic.{◌↔◌}
use mathlib.Core.List.{List, [], ◌++◌, append-nil}
use Prim.Native.Nat.{ℕ, ◌≤◌, min}
use native.Mathlib.Decide.{dec_le}
use native.Mathlib.Omega.{arith}
use lib.ListN.{length}
use Rattle.numbers.specs.Sizes.{Size, row_ceiling, sheet_ceiling}
use Rattle.numbers.specs.declared.Refusal.{Refusal}
use Rattle.numbers.specs.declared.Refusal.TheVariants.{LongSheet}
use Rattle.recipe.specs.declared.Row.{Row}
use Rattle.table.specs.Reading.{Reading, table, refused, rows_of, roots_of}
use Rattle.sheet.specs.Form.{spell, Holdable}
use Rattle.sheet.specs.Reading.{read_lines, read_sheet}
use Rattle.sheet.specs.Offences.{Offence, SheetOffence}
use Rattle.sheet.proofs.Outcomes.{spell_nothing, ReadSoFar, Outcome, spelled_whole, offended, outcome}
use Rattle.sheet.proofs.Passing.{at_end_lem, offender_is_refused, spelled_is_passed}
use Rattle.sheet.proofs.StepLaws.{sheet_too_long, sheet_opened}

-- What the outcome says of a table and of a refusal.
whole_of :
    {R P : ℕ} {bytes : List ℕ} {w : Reading} {rows : List Row} {roots : List ℕ} → Outcome R P bytes w → w ≡ table rows roots
    → ReadSoFar R P bytes rows roots []
whole_of {R} {P} {bytes} {rows = rows} {roots = roots} (spelled_whole {rows = rs} {roots = qs} r) e =
    let same : rs ≡ rows = cc in
    let same-roots : qs ≡ roots = cc in
    subst (λ (l : List Row). ReadSoFar R P bytes l roots []) same (subst (λ (l : List ℕ). ReadSoFar R P bytes rs l []) same-roots r)
whole_of (offended o) e = let z : ◌≡◌ {A = ℕ} 0 1 = cc in absurd (omega arith)

offence_of : {R P : ℕ} {bytes : List ℕ} {w : Reading} {why : Refusal} → Outcome R P bytes w → w ≡ refused why → Offence R P bytes why
offence_of (spelled_whole r) e = let z : ◌≡◌ {A = ℕ} 0 1 = cc in absurd (omega arith)
offence_of {R} {P} {bytes} {why = why} (offended {why = other} o) e = let same : other ≡ why = cc in subst (Offence R P bytes) same o

-- A reading takes at most so many places.
pub record InRoom (row_room root_room : ℕ) (w : Reading) : Type 0 where
  pub rows : length (rows_of w) ≤ row_room
  pub roots : length (roots_of w) ≤ root_room

within : {R P : ℕ} {bytes : List ℕ} (w : Reading) → Outcome R P bytes w → InRoom R P w
within (table rows roots) (spelled_whole r) = record { rows = r.rows_fit; roots = r.roots_fit }
within (refused why) o = record { rows = omega arith; roots = omega arith }

module _ (z : Size) (rowsLent rootsLent : ℕ) where
  abbrev row_room : ℕ
  row_room = min row_ceiling rowsLent

  abbrev root_room : ℕ
  root_room = min z.procs rootsLent

  -- A sheet that is not too long comes to what its lines come to.
  sheet_outcome : (bytes : List ℕ) → length bytes ≤ sheet_ceiling → Outcome row_room root_room bytes (read_sheet z rowsLent rootsLent bytes)
  sheet_outcome bytes h =
      rw (sheet_opened z rowsLent rootsLent bytes h refl refl)
      (outcome row_room root_room bytes (length bytes) [] [] bytes (omega arith)
      (record {
        spelled = sym (ap (λ (s : List ℕ). s ++ bytes) spell_nothing);
        rows_short = tt;
        roots_short = tt;
        rows_fit = omega arith;
        roots_fit = omega arith;
      }))

  pub sheet_within : (bytes : List ℕ) → InRoom row_room root_room (read_sheet z rowsLent rootsLent bytes)
  sheet_within bytes = by_size (dec_le (length bytes) sheet_ceiling)
    where
      by_size : Dec (length bytes ≤ sheet_ceiling) → InRoom row_room root_room (read_sheet z rowsLent rootsLent bytes)
      by_size (yes h) = within (read_sheet z rowsLent rootsLent bytes) (sheet_outcome bytes h)
      by_size (no h) =
          rw (sheet_too_long z rowsLent rootsLent bytes (omega arith)) (record { rows = omega arith; roots = omega arith })

  -- Whatever is read spells the sheet back byte for byte, and is a table that a sheet can hold.
  pub read_is_spelled :
      (bytes : List ℕ) (rows : List Row) (roots : List ℕ) → read_sheet z rowsLent rootsLent bytes ≡ table rows roots
      → (spell rows roots ≡ bytes) × Holdable z rowsLent rootsLent rows roots
  read_is_spelled bytes rows roots e = by_size (dec_le (length bytes) sheet_ceiling)
    where
      by_size : Dec (length bytes ≤ sheet_ceiling) → (spell rows roots ≡ bytes) × Holdable z rowsLent rootsLent rows roots
      by_size (yes h) =
          let r = whole_of (sheet_outcome bytes h) e in
          let same : spell rows roots ≡ bytes = sym (r.spelled ∙ append-nil (spell rows roots)) in (
            same,
            record {
              rows_short = r.rows_short;
              roots_short = r.roots_short;
              rows_fit = r.rows_fit;
              roots_fit = r.roots_fit;
              sheet_fits = subst (λ (s : List ℕ). length s ≤ sheet_ceiling) (sym same) h;
            },
          )
      by_size (no h) =
          let w : refused LongSheet ≡ table rows roots = sym (sheet_too_long z rowsLent rootsLent bytes (omega arith)) ∙ e in
          let none : ◌≡◌ {A = ℕ} 0 1 = cc in
          absurd (omega arith)

  -- Whatever is spelled of a table that a sheet can hold is read back the same.
  pub spelled_is_read :
      (rows : List Row) (roots : List ℕ) → Holdable z rowsLent rootsLent rows roots
      → read_sheet z rowsLent rootsLent (spell rows roots) ≡ table rows roots
  spelled_is_read rows roots h =
      sheet_opened z rowsLent rootsLent (spell rows roots) h.sheet_fits refl refl
      ∙ ap (read_lines row_room root_room (length (spell rows roots)) [] []) whole
      ∙ spelled_is_passed row_room root_room [] (table rows roots) (length (spell rows roots)) [] rows roots h.rows_short h.roots_short
      (omega (arith, h.rows_fit)) h.roots_fit (omega (arith, ap length whole)) (λ k _. at_end_lem row_room root_room k rows roots)
    where
      whole : spell rows roots ≡ spell rows roots ++ []
      whole = sym (append-nil (spell rows roots))

  -- So the reader accepts exactly the sheets of this form.
  pub read_exactly :
      (bytes : List ℕ) (rows : List Row) (roots : List ℕ)
      → (read_sheet z rowsLent rootsLent bytes ≡ table rows roots) ↔ ((spell rows roots ≡ bytes) × Holdable z rowsLent rootsLent rows roots)
  read_exactly bytes rows roots = (
    read_is_spelled bytes rows roots,
    λ p. ap (read_sheet z rowsLent rootsLent) (sym p.0) ∙ spelled_is_read rows roots p.1,
  )

  -- Whatever sheet is short enough and refused is refused at its first line that offends, and for how that line offends.
  pub refused_where_it_offends :
      (bytes : List ℕ) (why : Refusal) → length bytes ≤ sheet_ceiling → read_sheet z rowsLent rootsLent bytes ≡ refused why
      → Offence row_room root_room bytes why
  refused_where_it_offends bytes why h e = offence_of (sheet_outcome bytes h) e

  -- And whatever sheet has such a line is refused for it.
  pub offence_is_refused :
      (bytes : List ℕ) (why : Refusal) → length bytes ≤ sheet_ceiling → Offence row_room root_room bytes why
      → read_sheet z rowsLent rootsLent bytes ≡ refused why
  offence_is_refused bytes why h o =
      sheet_opened z rowsLent rootsLent bytes h refl refl
      ∙ ap (read_lines row_room root_room (length bytes) [] []) o.spelled
      ∙ spelled_is_passed row_room root_room o.rest (refused why) (length bytes) [] o.rows o.roots o.rows_short o.roots_short
      (omega (arith, o.rows_fit)) o.roots_fit (omega (arith, ap length o.spelled))
      (offender_is_refused row_room root_room o.rows o.roots o.rest o.offends)

  -- So the reader refuses exactly as the list says.
  pub refused_exactly :
      (bytes : List ℕ) (why : Refusal) → (read_sheet z rowsLent rootsLent bytes ≡ refused why) ↔ SheetOffence z rowsLent rootsLent bytes why
  refused_exactly bytes why = (λ e. by_size e (dec_le (length bytes) sheet_ceiling), refusal)
    where
      by_size : read_sheet z rowsLent rootsLent bytes ≡ refused why → Dec (length bytes ≤ sheet_ceiling) → SheetOffence z rowsLent rootsLent bytes why
      by_size e (yes h) = SheetOffence.at_line h (refused_where_it_offends bytes why h e)
      by_size e (no h) =
          let same : LongSheet ≡ why = cc (sheet_too_long z rowsLent rootsLent bytes (omega arith)) in
          subst (SheetOffence z rowsLent rootsLent bytes) same (SheetOffence.too_long (omega arith))

      refusal : {r : Refusal} → SheetOffence z rowsLent rootsLent bytes r → read_sheet z rowsLent rootsLent bytes ≡ refused r
      refusal (SheetOffence.too_long h) = sheet_too_long z rowsLent rootsLent bytes h
      refusal (SheetOffence.at_line {why = r} h o) = offence_is_refused bytes r h o
