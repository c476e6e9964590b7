-- The judge refuses exactly as the list of refusals says, since its definition tries one rule after the other, each over the whole table.
-- Assumes nothing.
use mathlib.Core.Bool.{Bool, true, false}
use mathlib.Core.List.{List, [], ◌∷◌}
use mathlib.Core.Logic.{◌⊎◌, inl, inr}
use mathlib.Core.Path.{◌≡◌, refl, sym, ◌∙◌, subst}
use Prim.Native.Nat.{ℕ}
use native.Mathlib.Omega.{arith}
use borrow.Author.Tests.{ltb-true, ltb-false}
use lib.Dec.{ltb}
use Rattle.numbers.specs.General.{lowest, First, Nowhere}
use Rattle.numbers.specs.Sizes.{Size}
use Rattle.numbers.specs.declared.Refusal.{Refusal}
use Rattle.numbers.proofs.LowestLaws.{lowest_is, lowest_passes, lowest_none, none_below, none_at_all}
use Rattle.recipe.specs.Offences.{KeepsRules, Refuses}
use Rattle.recipe.specs.Rules.{Rule, rules_of, rules_with, judged_by, judged, judged_with, IsAdmitted}
use Rattle.recipe.specs.Tables.{Table}
use Rattle.std.specs.Prelude.{Ok, Err}
use Rattle.recipe.proofs.Judging.{refused_at, passed_on, passed_if_admitted, all_passed}

-- ---- of any rules

abbrev place : Rule → ℕ
place r = lowest r.places r.breaks

pub refuses_of : (rules : List Rule) (why : Refusal) → judged_by rules ≡ Err why → Refuses rules why
refuses_of [] why h = let n : ◌≡◌ {A = ℕ} 0 1 = cc (all_passed) in absurd (omega arith)
refuses_of (r ∷ more) why h = go (ltb (place r) r.places) refl (refuses_of more why)
  where
    go : (b : Bool) → ltb (place r) r.places ≡ b → (judged_by more ≡ Err why → Refuses more why) → Refuses (r ∷ more) why
    go true e rest =
        let l = ltb-true (place r) r.places e in
        let same : r.refusal (place r) ≡ why = cc (refused_at r more (place r) refl l) in
        subst (Refuses (r ∷ more)) same
        (Refuses.here
        (record { there = l; passes = lowest_passes r.places r.breaks l; before = none_below r.places r.breaks }))
    go false e rest =
        let l = ltb-false (place r) r.places e in
        Refuses.later (none_at_all r.places r.breaks l) (rest (sym (passed_on r more (place r) refl l) ∙ h))

pub of_refuses : {rules : List Rule} {why : Refusal} → Refuses rules why → judged_by rules ≡ Err why
of_refuses (Refuses.here {r = r} {more = more} {i = i} f) =
    refused_at r more i (lowest_is r.places r.breaks i (omega (arith, f.there)) f.before (λ _. f.passes)) f.there
of_refuses (Refuses.later {r = r} {more = more} none rest) =
    passed_on r more r.places (lowest_none r.places r.breaks none) (omega arith) ∙ of_refuses rest

pub keeps_of : (rules : List Rule) → judged_by rules ≡ Ok tt → KeepsRules rules
keeps_of [] h = tt
keeps_of (r ∷ more) h =
    let passed = passed_if_admitted r more h in
    (none_at_all r.places r.breaks passed.0, keeps_of more passed.1)

pub of_keeps : (rules : List Rule) → KeepsRules rules → judged_by rules ≡ Ok tt
of_keeps [] k = all_passed
of_keeps (r ∷ more) k =
    passed_on r more r.places (lowest_none r.places r.breaks k.0) (omega arith) ∙ of_keeps more k.1

-- What refuses is the first rule, at its lowest place, or a later rule, where the first is kept.
pub refuses_by :
    {r : Rule} {more : List Rule} {why : Refusal} → Refuses (r ∷ more) why
    → ((i : ℕ) × First r.places r.breaks i × (r.refusal i ≡ why)) ⊎ (Nowhere r.places r.breaks × Refuses more why)
refuses_by (Refuses.here {i = i} f) = inl (i, f, refl)
refuses_by (Refuses.later none rest) = inr (none, rest)

-- ---- of a table

-- A table is admitted exactly if it keeps every rule.
pub admitted_kept : (z : Size) (t : Table) → IsAdmitted z t → KeepsRules (rules_of z t)
unfolding judged
admitted_kept z t = keeps_of (rules_of z t)

pub kept_admitted : (z : Size) (t : Table) → KeepsRules (rules_of z t) → IsAdmitted z t
unfolding judged
kept_admitted z t = of_keeps (rules_of z t)

module _ (z : Size) (t : Table) (why : Refusal) where
  pub refused_means : judged z t ≡ Err why → Refuses (rules_of z t) why
  unfolding judged
  refused_means = refuses_of (rules_of z t) why

  pub means_refused : Refuses (rules_of z t) why → judged z t ≡ Err why
  unfolding judged
  means_refused = of_refuses

  -- the same with a lent matrix
  pub refused_with_means : (words : ℕ) → judged_with z t words ≡ Err why → Refuses (rules_with z t words) why
  unfolding judged_with
  refused_with_means words = refuses_of (rules_with z t words) why

  pub means_refused_with : (words : ℕ) → Refuses (rules_with z t words) why → judged_with z t words ≡ Err why
  unfolding judged_with
  means_refused_with words = of_refuses
