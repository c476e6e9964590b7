-- The place of a refusal is small: a line is refused before the room is full or where it is, and the judge names a row or a procedure of the table.
-- Assumes nothing.
use mathlib.Core.Path.{◌≡◌, refl}
use mathlib.Core.Bool.{Bool, true, false, cond}
use mathlib.Core.List.{List, [], ◌∷◌}
use Prim.Native.Nat.{ℕ, zero, suc, ◌+◌, ◌≤◌, ◌<◌, min, zero-le}
use native.Mathlib.Omega.{arith}
use borrow.Author.Tests.{ltb-true}
use lib.Dec.{leb, ltb}
use lib.ListN.{length, length-append}
use Rattle.std.specs.Prelude.{Result, Ok, Err}
use Rattle.numbers.specs.General.{lowest}
use Rattle.numbers.specs.Refusals.{refusal_place}
use Rattle.numbers.specs.Sizes.{Size, row_ceiling, sheet_ceiling}
use Rattle.numbers.specs.declared.Refusal.{Refusal}
use Rattle.numbers.specs.declared.Refusal.TheVariants.{LongSheet}
use Rattle.recipe.specs.Rules.{Rule, rules_of, judged_by, judged}
use Rattle.recipe.specs.Tables.{Table, rows, procs}
use Rattle.recipe.specs.declared.Row.{Row}
use Rattle.table.specs.Reading.{Reading, table, refused}
use Rattle.sheet.specs.Form.{Every}
use Rattle.sheet.specs.Lines.{Line, line_at}
use Rattle.sheet.specs.Reading.{Step, after_step, read_lines, read_sheet}
use Rattle.sheet.proofs.StepLaws.{Stepped, ends, misformed, late, row_lacks_lem, root_lacks_lem, row_kept, root_kept, stepped}

-- ---- the reader

-- A refusal by the reader names a place within b.
abbrev pub ReadWithin : ℕ → Reading → Type 0
ReadWithin b (table rows roots) = Unit
ReadWithin b (refused why) = refusal_place why ≤ b

module _ (R P : ℕ) where
  -- by what is done with a line; `onward` is known of the lines behind it
  by_step :
      (k : ℕ) (rows : List Row) (roots : List ℕ) {line : Line} {step : Step} → length rows ≤ R → length roots ≤ P
      → Stepped R P (length rows) (length roots) line step
      → ((more : List Row) (further t : List ℕ) → length more ≤ R → length further ≤ P → ReadWithin (R + P) (read_lines R P k more further t))
      → ReadWithin (R + P) (after_step (read_lines R P k) rows roots step)
  by_step k rows roots h g (ends l) onward = tt
  by_step k rows roots h g (misformed l) onward = omega arith
  by_step k rows roots h g (late l b) onward = omega arith
  by_step k rows roots h g (row_lacks_lem l e b) onward = omega arith
  by_step k rows roots h g (root_lacks_lem l b) onward = omega arith
  by_step k rows roots h g (row_kept {row} l e b) onward = onward _ _ _ (omega (arith, length-append rows (row ∷ []))) g
  by_step k rows roots h g (root_kept {root} l b) onward = onward _ _ _ h (omega (arith, length-append roots (root ∷ [])))

  lines_within :
      (k : ℕ) (rows : List Row) (roots s : List ℕ) → length rows ≤ R → length roots ≤ P → ReadWithin (R + P) (read_lines R P k rows roots s)
  unfolding read_lines
  lines_within zero rows roots s h g = tt
  lines_within (suc k) rows roots s h g =
      by_step k rows roots h g (stepped R P (length rows) (length roots) (line_at s)) (lines_within k)

pub line_within :
    (z : Size) (rowsLent rootsLent : ℕ) (bytes : List ℕ)
    → ReadWithin (min row_ceiling rowsLent + min z.procs rootsLent) (read_sheet z rowsLent rootsLent bytes)
unfolding read_sheet
line_within z rowsLent rootsLent bytes = by_size (min row_ceiling rowsLent) (min z.procs rootsLent) (leb (length bytes) sheet_ceiling)
  where
    by_size : (R P : ℕ) (fits : Bool) → ReadWithin (R + P) (cond fits (read_lines R P (length bytes) [] [] bytes) (refused LongSheet))
    by_size R P true = lines_within R P (length bytes) [] [] bytes zero-le zero-le
    by_size R P false = zero-le

-- ---- the judge

-- A refusal by the judge names a place within b.
abbrev pub JudgedWithin : ℕ → Result Unit Refusal → Type 0
JudgedWithin b (Ok admitted) = Unit
JudgedWithin b (Err why) = refusal_place why ≤ b

-- Where a rule is broken, it names a place within b.
abbrev NamesWithin : ℕ → Rule → Type 0
NamesWithin b r = (i : ℕ) → i < r.places → refusal_place (r.refusal i) ≤ b

rules_within : (b : ℕ) (rules : List Rule) → Every (NamesWithin b) rules → JudgedWithin b (judged_by rules)
unfolding judged_by
rules_within b [] names = tt
rules_within b (r ∷ more) names = by_test (lowest r.places r.breaks) (rules_within b more names.1) _ refl
  where
    by_test :
        (place : ℕ) → JudgedWithin b (judged_by more) → (broken : Bool) → ltb place r.places ≡ broken
        → JudgedWithin b (cond broken (Err (r.refusal place)) (judged_by more))
    by_test place later true e = names.0 place (ltb-true place r.places e)
    by_test place later false e = later

pub place_within : (z : Size) (t : Table) → JudgedWithin (rows t + procs t) (judged z t)
unfolding judged
place_within z t =
    rules_within (rows t + procs t) (rules_of z t) (
      λ i l. zero-le,
      (λ i l. omega arith, (λ i l. omega arith, (λ i l. omega arith, (λ i l. omega arith, (λ i l. omega arith, tt))))),
    )
