-- How the writer's judge is taken rule by rule: sizes that can be written leave the judgement to the next rule, and others end it.
-- Assumes nothing.
use mathlib.Core.Bool.{Bool, true, false, not, ◌&&◌, ◌||◌}
use mathlib.Core.List.{[], ◌∷◌}
use mathlib.Core.Path.{◌≡◌, sym, ap, ◌∙◌}
use Prim.Native.Nat.{ℕ, ◌<◌}
use native.Mathlib.Nat.{le_refl}
use native.Mathlib.Omega.{arith}
use borrow.Author.Tests.{leb-true, eqb-true, not-false}
use lib.Dec.{leb, eqb}
use lib.ListN.{length, get_or}
use Rattle.std.specs.List.{position, zip}
use Rattle.std.specs.Prelude.{Some, None, Ok, Err}
use Rattle.std.proofs.lemmas.Bool.{and_parts}
use Rattle.std.proofs.lemmas.Slice.Zip.{length-zip, get_or-zip}
use Rattle.numbers.specs.General.{lowest}
use Rattle.numbers.specs.Sizes.{Size, row_ceiling}
use Rattle.numbers.specs.declared.Refusal.TheVariants.{Sizes}
use Rattle.numbers.proofs.PositionLaws.{position_found, position_none}
use Rattle.recipe.specs.Inner.{Kept}
use Rattle.recipe.specs.Rules.{Rule, kind_rule, judged_by}
use Rattle.recipe.specs.Tables.{Table, rows, procs}
use Rattle.recipe.proofs.Judging.{refused_at, passed_on, all_passed, whole_broken, kept_nowhere}
pub use Rattle.writer.specs.Inner.{WritableSizes}
use Rattle.writer.specs.Rules.{sizes_writable, too_long, sizes_rule, operand_rule, root_rule, table_rules}

-- The test of sizes that can be written finds such sizes.
pub sized : (z : Size) (rows xs ys procs : ℕ) → sizes_writable z rows xs ys procs ≡ true → WritableSizes z rows xs ys procs
unfolding sizes_writable
sized z rows xs ys procs h =
    let three = and_parts (leb rows row_ceiling && leb procs z.procs && eqb xs rows) (eqb ys rows) h in
    let two = and_parts (leb rows row_ceiling && leb procs z.procs) (eqb xs rows) three.0 in
    let one = and_parts (leb rows row_ceiling) (leb procs z.procs) two.0 in
    record {
      few_rows_lem = leb-true rows row_ceiling one.0;
      few_procs_lem = leb-true procs z.procs one.1;
      xs_match = eqb-true xs rows two.1;
      ys_match = eqb-true ys rows three.1;
    }

-- A rule by itself, over whose places a search has gone: it refuses the place that was found, and passes where none was.
module _ (r : Rule) where
  pub refuses_found : {i : ℕ} → (i < r.places) × (i ≡ lowest r.places r.breaks) → Err (r.refusal i) ≡ judged_by (r ∷ [])
  refuses_found found = sym (refused_at r [] _ found.1 found.0)

  pub passes_all : r.places ≡ lowest r.places r.breaks → Ok tt ≡ judged_by (r ∷ [])
  passes_all none = sym (passed_on r [] _ none (le_refl r.places) ∙ all_passed)

-- The first pair of operands that is too long is the lowest row that breaks the rule of operands, and where there is none, no row does.
module _ (z : Size) (t : Table) (sizes : WritableSizes z (rows t) (length t.xs) (length t.ys) (procs t)) where
  abbrev long_pair : ℕ × ℕ → Bool
  long_pair operands = too_long operands.0 || too_long operands.1

  as_many : length (zip t.xs t.ys) ≡ rows t
  as_many = omega (arith, length-zip t.xs t.ys, sizes.xs_match, sizes.ys_match)

  long_there : (i : ℕ) → i < length (zip t.xs t.ys) → long_pair (get_or (zip t.xs t.ys) i (0, 0)) ≡ (operand_rule t).breaks i
  long_there i l = ap long_pair (get_or-zip t.xs t.ys i (0, 0) (omega (arith, as_many, sizes.xs_match)) (omega (arith, as_many, sizes.ys_match)))

  pub long_found :
      {i : ℕ} → Some i ≡ position long_pair (zip t.xs t.ys) → (i < rows t) × (i ≡ lowest (rows t) (operand_rule t).breaks)
  long_found e = rw as_many at (position_found long_pair (zip t.xs t.ys) (0, 0) (operand_rule t).breaks long_there e)

  pub long_none : None ≡ position long_pair (zip t.xs t.ys) → rows t ≡ lowest (rows t) (operand_rule t).breaks
  long_none e = rw as_many at (position_none long_pair (zip t.xs t.ys) (0, 0) (operand_rule t).breaks long_there e)

module _ (z : Size) (t : Table) where
  -- Whether the table's sizes can be written.
  abbrev pub sizes_pass : Bool
  sizes_pass = sizes_writable z (rows t) (length t.xs) (length t.ys) (procs t)

  pub sizes_refused : sizes_pass ≡ false → judged_by (table_rules z t) ≡ Err Sizes
  sizes_refused h = whole_broken Sizes (kind_rule t ∷ operand_rule t ∷ root_rule t ∷ []) (not sizes_pass) (ap not h)

  -- A table that passes the rule on sizes has sizes that can be written.
  pub sizes_kept : Kept (sizes_rule z t) → WritableSizes z (rows t) (length t.xs) (length t.ys) (procs t)
  sizes_kept k = sized z (rows t) (length t.xs) (length t.ys) (procs t) (not-false _ (kept_nowhere (sizes_rule z t) k 0 (omega arith)))
