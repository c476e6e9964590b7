-- What a reading comes to: as far as it goes, the lines spell what is kept; at the end that is the whole sheet, and any other way out is at a line that
-- offends.
-- Assumes nothing.
use mathlib.Core.Path.{◌≡◌, refl, sym, ap, ◌∙◌, subst}
use mathlib.Core.List.{List, [], ◌∷◌, ◌++◌, flat_map, append_assoc, append-nil}
use Prim.Native.Nat.{ℕ, zero, suc, ◌+◌, ◌-◌, ◌≤◌, ◌<◌}
use native.Mathlib.Omega.{arith}
use lib.ListN.{length, length-append}
use Rattle.numbers.specs.declared.Refusal.{Refusal}
use Rattle.recipe.specs.declared.Row.{Row}
use Rattle.table.specs.Reading.{Reading, table, refused}
use Rattle.sheet.specs.Form.{spelled_row, spelled_root, spell, Short, ShortRow, Every}
use Rattle.sheet.specs.Lines.{line_at, row_line, root_line}
use Rattle.sheet.specs.Reading.{Step, after_step, step_of, read_lines}
use Rattle.sheet.specs.Offences.{Offends, Offence}
use Rattle.sheet.specs.Offences as offences
use Rattle.sheet.proofs.LineForms.{row_spelled, root_spelled, end_spelled, row_shorter, root_shorter}
use Rattle.sheet.proofs.StepLaws.{Stepped, ends, misformed, late, row_lacks_lem, root_lacks_lem, row_kept, root_kept, stepped, reads_on}

pub spell_row : (row : Row) (rows : List Row) (roots : List ℕ) → spell (row ∷ rows) roots ≡ spelled_row row ++ spell rows roots
unfolding spell flat_map
spell_row row rows roots = append_assoc (spelled_row row) (flat_map spelled_row rows) (flat_map spelled_root roots)

pub spell_root : (root : ℕ) (roots : List ℕ) → spell [] (root ∷ roots) ≡ spelled_root root ++ spell [] roots
unfolding spell flat_map
spell_root root roots = refl

pub spell_nothing : spell [] [] ≡ []
unfolding spell flat_map
spell_nothing = refl

-- One line more, before the bytes that are left.
pub spelled_on : {A : Type 0} (f : A → List ℕ) (l : List A) (x : A) → flat_map f (l ++ (x ∷ [])) ≡ flat_map f l ++ f x
unfolding flat_map
spelled_on f [] x = append-nil (f x)
spelled_on f (y ∷ l) x = ap (◌++◌ (f y)) (spelled_on f l x) ∙ sym (append_assoc (f y) (flat_map f l) (f x))

row_more : (rows : List Row) (row : Row) (t : List ℕ) → spell rows [] ++ (spelled_row row ++ t) ≡ spell (rows ++ (row ∷ [])) [] ++ t
unfolding spell flat_map
row_more rows row t = rw (spelled_on spelled_row rows row) (simp (append-nil, append_assoc))

root_more :
    (rows : List Row) (roots : List ℕ) (root : ℕ) (t : List ℕ)
    → spell rows roots ++ (spelled_root root ++ t) ≡ spell rows (roots ++ (root ∷ [])) ++ t
unfolding spell flat_map
root_more rows roots root t = rw (spelled_on spelled_root roots root) (simp append_assoc)

pub every_more : {A : Type 0} (Q : A → Type 0) (l : List A) (x : A) → Every Q l → Q x → Every Q (l ++ (x ∷ []))
every_more Q [] x a q = (q, tt)
every_more Q (y ∷ l) x a q = (a.0, every_more Q l x a.1 q)

none_kept : (l : List ℕ) → length l ≡ 0 → l ≡ []
none_kept [] e = refl
none_kept (x ∷ l) e = absurd (omega arith)

-- Where a reading stands: the bytes so far spell what is kept, which is short and finds room.
pub record ReadSoFar (R P : ℕ) (bytes : List ℕ) (rows : List Row) (roots s : List ℕ) : Type 0 where
  pub spelled : bytes ≡ spell rows roots ++ s
  pub rows_short : Every ShortRow rows
  pub roots_short : Every Short roots
  pub rows_fit : length rows ≤ R
  pub roots_fit : length roots ≤ P

-- What it comes to: a table that the sheet spells, or the refusal of a line that offends.
pub data Outcome (R P : ℕ) (bytes : List ℕ) : Reading → Type 0 where
  spelled_whole : {rows : List Row} {roots : List ℕ} → ReadSoFar R P bytes rows roots [] → Outcome R P bytes (table rows roots)
  offended : {why : Refusal} → Offence R P bytes why → Outcome R P bytes (refused why)

module _ (R P : ℕ) (bytes : List ℕ) where
  row_joins :
      {rows : List Row} {roots s : List ℕ} {row : Row} {t : List ℕ} → ReadSoFar R P bytes rows roots s → line_at s ≡ row_line row t
      → length roots ≡ 0 → length rows < R → ReadSoFar R P bytes (rows ++ (row ∷ [])) roots t
  row_joins {rows} {roots} {s} {row} {t} r l z h =
      let none = none_kept roots z in
      let line = row_spelled s l in
      record {
        spelled =
            r.spelled
            ∙ ap (◌++◌ (spell rows roots)) line.0
            ∙ subst (λ (q : List ℕ). spell rows q ++ (spelled_row row ++ t) ≡ spell (rows ++ (row ∷ [])) q ++ t) (sym none) (row_more rows row t);
        rows_short = every_more ShortRow rows row r.rows_short line.1;
        roots_short = r.roots_short;
        rows_fit = omega (arith, length-append rows (row ∷ []));
        roots_fit = r.roots_fit;
      }

  root_joins :
      {rows : List Row} {roots s : List ℕ} {root : ℕ} {t : List ℕ} → ReadSoFar R P bytes rows roots s → line_at s ≡ root_line root t
      → length roots < P → ReadSoFar R P bytes rows (roots ++ (root ∷ [])) t
  root_joins {rows} {roots} {s} {root} {t} r l h =
      let line = root_spelled s l in
      record {
        spelled = r.spelled ∙ ap (◌++◌ (spell rows roots)) line.0 ∙ root_more rows roots root t;
        rows_short = r.rows_short;
        roots_short = every_more Short roots root r.roots_short line.1;
        rows_fit = r.rows_fit;
        roots_fit = omega (arith, length-append roots (root ∷ []));
      }

  module _ {rows : List Row} {roots s : List ℕ} (r : ReadSoFar R P bytes rows roots s) where
    offence : {why : Refusal} → Offends R P rows roots s (length rows + length roots) why → Offence R P bytes why
    offence o =
        record {
          rows = rows;
          roots = roots;
          rest = s;
          spelled = r.spelled;
          rows_short = r.rows_short;
          roots_short = r.roots_short;
          rows_fit = r.rows_fit;
          roots_fit = r.roots_fit;
          offends = o;
        }

    -- By what is done with the line at the front; `onward` is known of the lines behind it.
    by_step :
        (k : ℕ) (step : Step) → length s ≤ k → Stepped R P (length rows) (length roots) (line_at s) step
        → ((rows' : List Row) (roots' t : List ℕ) → length t ≤ k - 1 → ReadSoFar R P bytes rows' roots' t
        → Outcome R P bytes (read_lines R P (k - 1) rows' roots' t))
        → Outcome R P bytes (after_step (read_lines R P (k - 1)) rows roots step)
    by_step k step h (ends l) onward = spelled_whole (subst (ReadSoFar R P bytes rows roots) (end_spelled s l) r)
    by_step k step h (misformed l) onward = offended (offence (offences.misformed l))
    by_step k step h (late l g) onward = offended (offence (offences.late l g))
    by_step k step h (row_lacks_lem l z g) onward = offended (offence (offences.row_lacks l (none_kept roots z) (omega (arith, r.rows_fit))))
    by_step k step h (root_lacks_lem l g) onward = offended (offence (offences.root_lacks l (omega (arith, r.roots_fit))))
    by_step k step h (row_kept l z g) onward = onward _ _ _ (omega (arith, row_shorter s l)) (row_joins r l z g)
    by_step k step h (root_kept l g) onward = onward _ _ _ (omega (arith, root_shorter s l)) (root_joins r l g)

  pub outcome :
      (k : ℕ) (rows : List Row) (roots s : List ℕ) → length s ≤ k → ReadSoFar R P bytes rows roots s
      → Outcome R P bytes (read_lines R P k rows roots s)
  unfolding read_lines
  outcome zero rows roots [] h r = spelled_whole r
  outcome zero rows roots (b ∷ s) h r = absurd (omega arith)
  outcome (suc k) rows roots s h r =
      rw (reads_on R P (suc k) rows roots s h)
      (by_step r (suc k) (step_of R P (length rows) (length roots) (line_at s)) h
      (stepped R P (length rows) (length roots) (line_at s))
      (λ rows' roots' t g q. subst (λ (j : ℕ). Outcome R P bytes (read_lines R P j rows' roots' t)) (sym less) (outcome k rows' roots' t (omega arith) q)))
    where
      less : suc k - 1 ≡ k
      less = omega arith
