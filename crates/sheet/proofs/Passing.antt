-- Reading passes what is spelled and comes to the bytes behind it, since each spelled line is read as it is spelled and kept; there a line that offends
-- is refused as it offends.
-- Assumes nothing.
use mathlib.Core.Path.{◌≡◌, refl, sym, ap, ◌∙◌}
use mathlib.Core.List.{List, [], ◌∷◌, ◌++◌, append_assoc, append-nil}
use Prim.Native.Nat.{ℕ, ◌+◌, ◌-◌, ◌≤◌}
use native.Mathlib.Omega.{arith}
use lib.ListN.{length, length-append}
use Rattle.numbers.specs.declared.Refusal.{Refusal}
use Rattle.recipe.specs.declared.Row.{Row}
use Rattle.table.specs.Reading.{Reading, table, refused}
use Rattle.sheet.specs.Form.{spelled_row, spelled_root, spell, Short, ShortRow, Every}
use Rattle.sheet.specs.Lines.{line_at, row_line, root_line}
use Rattle.sheet.specs.Reading.{Step, keep_row, keep_root, step_of, after_step, read_lines}
use Rattle.sheet.specs.Offences.{Offends}
use Rattle.sheet.proofs.LineForms.{row_line_reads, root_line_reads, row_shorter, root_shorter}
use Rattle.sheet.proofs.LineLaws.{no_bytes}
use Rattle.sheet.proofs.Outcomes.{spell_row, spell_root, spell_nothing}
use Rattle.sheet.proofs.StepLaws.{wrong_line_lem, late_row, row_lacks_room, root_lacks_room, row_is_kept, root_is_kept, reads_on}

module _ (R P : ℕ) where
  steps_on :
      (k : ℕ) (rows : List Row) (roots s : List ℕ) (step : Step) → length s ≤ k
      → step_of R P (length rows) (length roots) (line_at s) ≡ step
      → read_lines R P k rows roots s ≡ after_step (read_lines R P (k - 1)) rows roots step
  steps_on k rows roots s step h e = reads_on R P k rows roots s h ∙ ap (after_step (read_lines R P (k - 1)) rows roots) e

  pub at_end_lem : (k : ℕ) (rows : List Row) (roots : List ℕ) → read_lines R P k rows roots [] ≡ table rows roots
  unfolding step_of
  at_end_lem k rows roots = steps_on k rows roots [] _ (omega arith) (ap (step_of R P (length rows) (length roots)) no_bytes)

  -- The line at the front is refused as it offends.
  pub offender_is_refused :
      (rows : List Row) (roots rest : List ℕ) {why : Refusal} → Offends R P rows roots rest (length rows + length roots) why
      → (k : ℕ) → length rest ≤ k → read_lines R P k rows roots rest ≡ refused why
  offender_is_refused rows roots rest (Offends.misformed l) k h =
      steps_on k rows roots rest _ h (ap (step_of R P (length rows) (length roots)) l ∙ wrong_line_lem R P (length rows) (length roots))
  offender_is_refused rows roots rest (Offends.late {row = row} {t = t} l g) k h =
      steps_on k rows roots rest _ h (ap (step_of R P (length rows) (length roots)) l ∙ late_row R P (length rows) (length roots) row t g)
  offender_is_refused rows roots rest (Offends.row_lacks {row = row} {t = t} l none full) k h =
      steps_on k rows roots rest _ h
      (ap (step_of R P (length rows) (length roots)) l ∙ row_lacks_room R P (length rows) (length roots) row t (ap length none) (omega arith))
  offender_is_refused rows roots rest (Offends.root_lacks {root = root} {t = t} l full) k h =
      steps_on k rows roots rest _ h
      (ap (step_of R P (length rows) (length roots)) l ∙ root_lacks_room R P (length rows) (length roots) root t (omega arith))

  -- What is spelled is passed: the reading comes to what the bytes behind it come to, with what is spelled kept.
  module _ (rest : List ℕ) (w : Reading) where
    roots_passed :
        (k : ℕ) (rows : List Row) (roots new : List ℕ) → Every Short new → length roots + length new ≤ P
        → length (spell [] new ++ rest) ≤ k
        → ((j : ℕ) → length rest ≤ j → read_lines R P j rows (roots ++ new) rest ≡ w)
        → read_lines R P k rows roots (spell [] new ++ rest) ≡ w
    roots_passed k rows roots [] a h g behind =
        ap (λ (s : List ℕ). read_lines R P k rows roots (s ++ rest)) spell_nothing
        ∙ ap (λ (l : List ℕ). read_lines R P k rows l rest) (sym (append-nil roots))
        ∙ behind k (omega (arith, ap (λ (s : List ℕ). length (s ++ rest)) spell_nothing))
    roots_passed k rows roots (root ∷ new) a h g behind =
        ap (read_lines R P k rows roots) split
        ∙ steps_on k rows roots (spelled_root root ++ (spell [] new ++ rest)) (keep_root root (spell [] new ++ rest)) fits
        (ap (step_of R P (length rows) (length roots)) line
        ∙ root_is_kept R P (length rows) (length roots) root (spell [] new ++ rest) (omega arith))
        ∙ roots_passed (k - 1) rows (roots ++ (root ∷ [])) new a.1 (omega (arith, length-append roots (root ∷ [])))
        (omega (arith, fits, root_shorter (spelled_root root ++ (spell [] new ++ rest)) line))
        (λ j f. ap (λ (l : List ℕ). read_lines R P j rows l rest) (append_assoc roots (root ∷ []) new) ∙ behind j f)
      where
        split : spell [] (root ∷ new) ++ rest ≡ spelled_root root ++ (spell [] new ++ rest)
        split = ap (λ (s : List ℕ). s ++ rest) (spell_root root new) ∙ append_assoc (spelled_root root) (spell [] new) rest

        line : line_at (spelled_root root ++ (spell [] new ++ rest)) ≡ root_line root (spell [] new ++ rest)
        line = root_line_reads root (spell [] new ++ rest) a.0

        fits : length (spelled_root root ++ (spell [] new ++ rest)) ≤ k
        fits = omega (arith, ap length split)

    pub spelled_is_passed :
        (k : ℕ) (rows new : List Row) (roots : List ℕ) → Every ShortRow new → Every Short roots → length rows + length new ≤ R
        → length roots ≤ P → length (spell new roots ++ rest) ≤ k
        → ((j : ℕ) → length rest ≤ j → read_lines R P j (rows ++ new) roots rest ≡ w)
        → read_lines R P k rows [] (spell new roots ++ rest) ≡ w
    spelled_is_passed k rows [] roots a b h g f behind =
        roots_passed k rows [] roots b (omega arith) f
        (λ j e. ap (λ (l : List Row). read_lines R P j l roots rest) (sym (append-nil rows)) ∙ behind j e)
    spelled_is_passed k rows (row ∷ new) roots a b h g f behind =
        ap (read_lines R P k rows []) split
        ∙ steps_on k rows [] (spelled_row row ++ (spell new roots ++ rest)) (keep_row row (spell new roots ++ rest)) fits
        (ap (step_of R P (length rows) 0) line ∙ row_is_kept R P (length rows) 0 row (spell new roots ++ rest) refl (omega arith))
        ∙ spelled_is_passed (k - 1) (rows ++ (row ∷ [])) new roots a.1 b (omega (arith, length-append rows (row ∷ []))) g
        (omega (arith, fits, row_shorter (spelled_row row ++ (spell new roots ++ rest)) line))
        (λ j e. ap (λ (l : List Row). read_lines R P j l roots rest) (append_assoc rows (row ∷ []) new) ∙ behind j e)
      where
        split : spell (row ∷ new) roots ++ rest ≡ spelled_row row ++ (spell new roots ++ rest)
        split = ap (λ (s : List ℕ). s ++ rest) (spell_row row new roots) ∙ append_assoc (spelled_row row) (spell new roots) rest

        line : line_at (spelled_row row ++ (spell new roots ++ rest)) ≡ row_line row (spell new roots ++ rest)
        line = row_line_reads row (spell new roots ++ rest) a.0

        fits : length (spelled_row row ++ (spell new roots ++ rest)) ≤ k
        fits = omega (arith, ap length split)
