-- The loop over the lines: what is kept and the lines that are left make the whole reading; each line either joins what is kept or decides.
-- Assumes nothing.
use mathlib.Core.Path.{◌≡◌, refl, sym, ap, ◌∙◌, subst}
use mathlib.Core.List.{List, [], ◌∷◌, ◌++◌}
use Prim.Native.Nat.{ℕ, ◌+◌, ◌-◌, ◌≤◌, ◌<◌}
use native.Mathlib.Omega.{arith}
use lib.ListN.{length, drop, set, length-append}
use Rattle.std.specs.Prelude.{Option, Some, None, Result, Ok, Err}
use Rattle.numbers.specs.Sizes.{ours, row_ceiling}
use Rattle.numbers.specs.declared.Refusal.{Refusal}
use Rattle.recipe.specs.declared.Row.{Row}
use Rattle.table.specs.Reading.{Reading, refused}
use Rattle.table.specs.Inner.{no_rows, no_roots, holding, empty, held_of}
use Rattle.table.specs.declared.Held.{Held}
use Rattle.table.specs.declared.Room.{Room}
use Rattle.table.proofs.Laying.{laid_next, length_no_rows, length_no_roots}
use Rattle.sheet.specs.Lines.{line_at}
use Rattle.sheet.specs.Reading.{step_of, after_step, read_lines}
use Rattle.sheet.specs.Reading as reading
use Rattle.sheet.specs.Inner.{step_for}
use Rattle.sheet.specs.declared.lines.Line.{Line}
use Rattle.sheet.specs.declared.lines.Line.TheVariants as line
use Rattle.sheet.proofs.LineForms.{row_shorter, root_shorter}
use Rattle.sheet.proofs.StepLaws.{Stepped, row_kept, root_kept, stepped, reads_on}

-- The reading of all lines.
abbrev pub whole : List ℕ → ℕ → ℕ → Reading
whole bytes R P = read_lines R P (length bytes) [] [] bytes

-- The state of the loop: these rows and roots are held, within the room, and the bytes from place `at` on are left.
pub record KeptSoFar (bytes : List ℕ) (R P : ℕ) (held : Held) (at : ℕ) : Type 0 where
  pub kept : List Row
  pub kept_roots : List ℕ
  pub lines : ℕ
  pub left : whole bytes R P ≡ read_lines R P lines kept kept_roots (drop at bytes)
  pub enough : length (drop at bytes) ≤ lines
  pub holds : held ≡ holding kept kept_roots
  pub rows_fit_lem : held.kept.rows ≤ R
  pub roots_fit_lem : held.kept.roots ≤ P
  pub row_room_lem : R ≤ row_ceiling
  pub root_room_lem : P ≤ ours.procs

-- What is held, with so many kept.
abbrev pub counting : Held → Room → Held
counting h kept = record { rows = h.rows; roots = h.roots; kept = kept }

-- What is held with a row or a root more.
abbrev pub with_row : Held → Row → Held
with_row h row =
    record { rows = set h.rows h.kept.rows row; roots = h.roots; kept = record { rows = h.kept.rows + 1; roots = h.kept.roots } }

abbrev pub with_root : Held → ℕ → Held
with_root h root =
    record { rows = h.rows; roots = set h.roots h.kept.roots root; kept = record { rows = h.kept.rows; roots = h.kept.roots + 1 } }

-- What holds after a step: the next state, or the reading is decided.
abbrev pub After : List ℕ → ℕ → ℕ → Held → Result (Option (Line × ℕ)) Refusal → Type 0
After bytes R P held (Ok (Some (line.Row row, next))) = (held.kept.rows < R) × KeptSoFar bytes R P (with_row held row) next
After bytes R P held (Ok (Some (line.Root root, next))) = (held.kept.roots < P) × KeptSoFar bytes R P (with_root held root) next
After bytes R P held (Ok None) = Ok held ≡ held_of (whole bytes R P)
After bytes R P held (Err why) = whole bytes R P ≡ refused why

pub nothing_kept : (bytes : List ℕ) (R P : ℕ) (held : Held) → R ≤ row_ceiling → P ≤ ours.procs → held ≡ empty → KeptSoFar bytes R P held 0
nothing_kept bytes R P held r p e =
    record {
      kept = [];
      kept_roots = [];
      lines = length bytes;
      left = refl;
      enough = omega arith;
      holds = e;
      rows_fit_lem = rw e (omega arith);
      roots_fit_lem = rw e (omega arith);
      row_room_lem = r;
      root_room_lem = p;
    }

one_more : {A : Type 0} (l : List A) (x : A) → length l + 1 ≡ length (l ++ (x ∷ []))
one_more l x = omega (arith, length-append l (x ∷ []))

module _ {bytes : List ℕ} {R P : ℕ} {held : Held} {at : ℕ} (c : KeptSoFar bytes R P held at) where
  row_added : (row : Row) → held.kept.rows < R → with_row held row ≡ holding (c.kept ++ (row ∷ [])) c.kept_roots
  row_added row h =
      let many : held.kept.rows ≡ length c.kept = ap (λ (k : Held). k.kept.rows) c.holds in
      rw (c.holds, one_more c.kept row, laid_next c.kept no_rows row (length c.kept) refl (omega (arith, many, length_no_rows, c.row_room_lem)))

  root_added : (root : ℕ) → held.kept.roots < P → with_root held root ≡ holding c.kept (c.kept_roots ++ (root ∷ []))
  root_added root h =
      let many : held.kept.roots ≡ length c.kept_roots = ap (λ (k : Held). k.kept.roots) c.holds in
      rw (c.holds, one_more c.kept_roots root, laid_next c.kept_roots no_roots root (length c.kept_roots) refl (omega (arith, many, length_no_roots, c.root_room_lem)))

  -- Reading goes on by the step.
  goes_on_lem :
      (step : reading.Step) → step ≡ step_of R P held.kept.rows held.kept.roots (line_at (drop at bytes))
      → whole bytes R P ≡ after_step (read_lines R P (c.lines - 1)) c.kept c.kept_roots step
  goes_on_lem step e =
      c.left
      ∙ reads_on R P c.lines c.kept c.kept_roots (drop at bytes) c.enough
      ∙ ap (after_step (read_lines R P (c.lines - 1)) c.kept c.kept_roots)
      (sym (e ∙ ap (λ (h : Held). step_of R P h.kept.rows h.kept.roots (line_at (drop at bytes))) c.holds))

  -- Whatever line stands at the place, what is done with it is right.
  pub kept_on :
      (step : Result (Option (Line × ℕ)) Refusal) → step_for bytes step ≡ step_of R P held.kept.rows held.kept.roots (line_at (drop at bytes))
      → After bytes R P held step
  kept_on step e = by_step step (goes_on_lem (step_for bytes step) e)
      (subst (Stepped R P held.kept.rows held.kept.roots (line_at (drop at bytes))) (sym e)
      (stepped R P held.kept.rows held.kept.roots (line_at (drop at bytes))))
    where
      by_step :
          (step : Result (Option (Line × ℕ)) Refusal)
          → whole bytes R P ≡ after_step (read_lines R P (c.lines - 1)) c.kept c.kept_roots (step_for bytes step)
          → Stepped R P held.kept.rows held.kept.roots (line_at (drop at bytes)) (step_for bytes step) → After bytes R P held step
      by_step (Ok (Some (line.Row row, next))) on (row_kept l z h) = (
        h,
        record {
          kept = c.kept ++ (row ∷ []);
          kept_roots = c.kept_roots;
          lines = c.lines - 1;
          left = on;
          enough = omega (arith, row_shorter (drop at bytes) l, c.enough);
          holds = row_added row h;
          rows_fit_lem = omega arith;
          roots_fit_lem = c.roots_fit_lem;
          row_room_lem = c.row_room_lem;
          root_room_lem = c.root_room_lem;
        },
      )
      by_step (Ok (Some (line.Root root, next))) on (root_kept l h) = (
        h,
        record {
          kept = c.kept;
          kept_roots = c.kept_roots ++ (root ∷ []);
          lines = c.lines - 1;
          left = on;
          enough = omega (arith, root_shorter (drop at bytes) l, c.enough);
          holds = root_added root h;
          rows_fit_lem = c.rows_fit_lem;
          roots_fit_lem = omega arith;
          row_room_lem = c.row_room_lem;
          root_room_lem = c.root_room_lem;
        },
      )
      by_step (Ok None) on s = ap (λ (h : Held). Ok h) c.holds ∙ ap held_of (sym on)
      by_step (Err why) on s = on
