-- How the judge's definition is taken rule by rule: a rule that some place breaks ends it at the lowest such place, and a rule
-- that no place breaks leaves it to the next. Assumes nothing.
use mathlib.Core.Bool.{Bool, true, false, cond, not, ◌&&◌}
use mathlib.Core.List.{List, [], ◌∷◌, ◌++◌}
use mathlib.Core.Path.{◌≡◌, refl, sym, ap, ◌∙◌}
use Prim.Native.Nat.{ℕ, ◌≤◌, ◌<◌}
use native.Mathlib.Omega.{arith}
use borrow.Author.Tests.{lt-ltb, le-ltb, le-leb, eq-eqb, ltb-false, leb-true, eqb-true, not-false}
use lib.Dec.{ltb, leb, eqb}
use lib.ListN.{length}
use Rattle.numbers.specs.General.{lowest, First, Nowhere}
use Rattle.numbers.specs.Sizes.{Size, row_ceiling}
use Rattle.numbers.specs.declared.Refusal.{Refusal}
use Rattle.numbers.specs.declared.Refusal.TheVariants.{Sizes}
use Rattle.recipe.specs.Tables.{Table, rows, procs}
use Rattle.recipe.specs.Rules.{from_one_to, sizes_right, sizes_fit, Rule, sizes_rule, further_rules, judged_by, judged}
use Rattle.std.specs.Prelude.{Ok, Err}
use Rattle.recipe.specs.Inner.{Kept, RightSizes}
use Rattle.numbers.proofs.LowestLaws.{lowest_is, lowest_none, none_at_all}
use Rattle.recipe.proofs.Operands.{and_first, and_second}

-- The test of right sizes finds right sizes.
pub sized : (z : Size) (rows xs ys procs : ℕ) → sizes_right z rows xs ys procs ≡ true → RightSizes z rows xs ys procs
unfolding sizes_right
sized z rows xs ys procs h =
    let three = and_first (from_one_to row_ceiling rows && from_one_to z.procs procs && eqb xs rows) (eqb ys rows) h in
    let two = and_first (from_one_to row_ceiling rows && from_one_to z.procs procs) (eqb xs rows) three in
    let one = and_first (from_one_to row_ceiling rows) (from_one_to z.procs procs) two in
    let other = and_second (from_one_to row_ceiling rows) (from_one_to z.procs procs) two in
    record {
      some_rows = leb-true 1 rows (and_first (leb 1 rows) (leb rows row_ceiling) one);
      few_rows_lem = leb-true rows row_ceiling (and_second (leb 1 rows) (leb rows row_ceiling) one);
      some_procs = leb-true 1 procs (and_first (leb 1 procs) (leb procs z.procs) other);
      few_procs_lem = leb-true procs z.procs (and_second (leb 1 procs) (leb procs z.procs) other);
      xs_match = eqb-true xs rows (and_second (from_one_to row_ceiling rows && from_one_to z.procs procs) (eqb xs rows) three);
      ys_match = eqb-true ys rows (and_second (from_one_to row_ceiling rows && from_one_to z.procs procs && eqb xs rows) (eqb ys rows) h);
    }

-- The test of right sizes passes.
pub sizes_test : {z : Size} {rows xs ys procs : ℕ} → RightSizes z rows xs ys procs → sizes_right z rows xs ys procs ≡ true
unfolding sizes_right
sizes_test s =
    simp (
      le-leb _ _ s.some_rows,
      le-leb _ _ s.few_rows_lem,
      le-leb _ _ s.some_procs,
      le-leb _ _ s.few_procs_lem,
      eq-eqb _ _ s.xs_match,
      eq-eqb _ _ s.ys_match,
    )

module _ (r : Rule) (more : List Rule) where
  abbrev place : ℕ
  place = lowest r.places r.breaks

  by_test : (b : Bool) → ltb place r.places ≡ b → judged_by (r ∷ more) ≡ cond b (Err (r.refusal place)) (judged_by more)
  unfolding judged_by
  by_test b e = ap (λ (x : Bool). cond x (Err (r.refusal place)) (judged_by more)) e

  -- A place that breaks the rule ends the judgement.
  pub refused_at : (i : ℕ) → i ≡ place → i < r.places → judged_by (r ∷ more) ≡ Err (r.refusal i)
  refused_at i e l = by_test true (lt-ltb place r.places (omega arith)) ∙ ap (λ (k : ℕ). Err (r.refusal k)) (sym e)

  -- Without such a place the next rule decides.
  pub passed_on : (i : ℕ) → i ≡ place → r.places ≤ i → judged_by (r ∷ more) ≡ judged_by more
  passed_on i e l = by_test false (le-ltb place r.places (omega arith))

  -- A table is admitted only past the rule.
  pub passed_if_admitted : judged_by (r ∷ more) ≡ Ok tt → (r.places ≤ place) × (judged_by more ≡ Ok tt)
  passed_if_admitted h = go (ltb place r.places) refl
    where
      go : (b : Bool) → ltb place r.places ≡ b → (r.places ≤ place) × (judged_by more ≡ Ok tt)
      go true e = let n : ◌≡◌ {A = ℕ} 0 1 = cc (by_test true e) in absurd (omega arith)
      go false e = (ltb-false place r.places e, sym (by_test false e) ∙ h)

-- Nothing is left to refuse once every rule is passed.
pub all_passed : judged_by [] ≡ Ok tt
unfolding judged_by
all_passed = refl

-- Where rules are tried after others, a refusal by the first ones stands.
pub earlier_refuse : (first later : List Rule) (why : Refusal) → judged_by first ≡ Err why → judged_by (first ++ later) ≡ Err why
unfolding judged_by
earlier_refuse [] later why e = let n : ◌≡◌ {A = ℕ} 0 1 = cc in absurd (omega arith)
earlier_refuse (r ∷ more) later why e = go (ltb (place r more) r.places) (earlier_refuse more later why) e
  where
    go : (b : Bool) → (judged_by more ≡ Err why → judged_by (more ++ later) ≡ Err why)
        → cond b (Err (r.refusal (place r more))) (judged_by more) ≡ Err why
        → cond b (Err (r.refusal (place r more))) (judged_by (more ++ later)) ≡ Err why
    go true further e = e
    go false further e = further e

-- What the first ones admit is left to the later ones.
pub later_decide : (first later : List Rule) → judged_by first ≡ Ok tt → judged_by (first ++ later) ≡ judged_by later
unfolding judged_by
later_decide [] later e = refl
later_decide (r ∷ more) later e = go (ltb (place r more) r.places) (later_decide more later) e
  where
    go : (b : Bool) → (judged_by more ≡ Ok tt → judged_by (more ++ later) ≡ judged_by later)
        → cond b (Err (r.refusal (place r more))) (judged_by more) ≡ Ok tt
        → cond b (Err (r.refusal (place r more))) (judged_by (more ++ later)) ≡ judged_by later
    go true further e = let n : ◌≡◌ {A = ℕ} 0 1 = cc in absurd (omega arith)
    go false further e = further e

-- A rule by itself, at its lowest broken place or kept.
module _ (r : Rule) where
  pub stops : (i : ℕ) → First r.places r.breaks i → Err (r.refusal i) ≡ judged_by (r ∷ [])
  stops i f = let l = f.there in sym (refused_at r [] i (lowest_is r.places r.breaks i (omega arith) f.before (λ _. f.passes)) l)

  pub stops_at : (i : ℕ) → i < r.places → Nowhere i r.breaks → r.breaks i ≡ true → Err (r.refusal i) ≡ judged_by (r ∷ [])
  stops_at i l before here = stops i (record { there = l; passes = here; before = before })

  pub passes : Nowhere r.places r.breaks → Kept r
  passes none = sym (passed_on r [] r.places (lowest_none r.places r.breaks none) (omega arith) ∙ all_passed)

  pub kept_nowhere : Kept r → Nowhere r.places r.breaks
  kept_nowhere k = none_at_all r.places r.breaks (passed_if_admitted r [] (sym k)).0

  -- Before other rules it refuses as it does by itself, and a table that it passes is theirs to judge.
  pub refused_before : (more : List Rule) {why : Refusal} → Err why ≡ judged_by (r ∷ []) → Err why ≡ judged_by (r ∷ more)
  refused_before more e = sym (earlier_refuse (r ∷ []) more _ (sym e))

  pub kept_before : (more : List Rule) → Kept r → judged_by more ≡ judged_by (r ∷ more)
  kept_before more k = sym (later_decide (r ∷ []) more (sym k))

-- A rule on the table as a whole.
module _ (why : Refusal) (more : List Rule) where
  abbrev whole : Bool → Rule
  whole broken = record { places = 1; breaks = λ i. broken; refusal = λ i. why }

  pub whole_broken : (b : Bool) → b ≡ true → judged_by (whole b ∷ more) ≡ Err why
  unfolding judged_by lowest
  whole_broken true e = refl
  whole_broken false e = let n : ◌≡◌ {A = ℕ} 0 1 = cc in absurd (omega arith)

  pub whole_kept : (b : Bool) → b ≡ false → judged_by (whole b ∷ more) ≡ judged_by more
  unfolding judged_by lowest
  whole_kept false e = refl
  whole_kept true e = let n : ◌≡◌ {A = ℕ} 0 1 = cc in absurd (omega arith)

-- A table that passes the rule on sizes has right sizes.
pub sizes_kept : (z : Size) (t : Table) → Kept (sizes_rule z t) → RightSizes z (rows t) (length t.xs) (length t.ys) (procs t)
sizes_kept z t k = sized z (rows t) (length t.xs) (length t.ys) (procs t) (not-false _ (kept_nowhere (sizes_rule z t) k 0 (omega arith)))

-- So rules that are checked by themselves, one after the other up to the first that refuses, judge as all of them do.
pub ruleset in_order = (refused_before, kept_before, sizes_kept)

module _ (z : Size) (t : Table) where
  pub sizes_refused : sizes_fit z t ≡ false → judged z t ≡ Err Sizes
  unfolding judged
  sizes_refused h = whole_broken Sizes (further_rules z t) (not (sizes_fit z t)) (ap not h)

  pub sizes_passed : sizes_fit z t ≡ true → judged z t ≡ judged_by (further_rules z t)
  unfolding judged
  sizes_passed h = whole_kept Sizes (further_rules z t) (not (sizes_fit z t)) (ap not h)
