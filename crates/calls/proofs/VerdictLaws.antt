-- The verdict goes by the judge's reply, and of an admitted table by who reaches whom: exact is given exactly where no procedure that main can reach can reach
-- itself, since the computed closure is the relation.
-- Assumes nothing.
use mathlib.Core.Path.{◌≡◌, refl, sym, ap, ◌∙◌}
use mathlib.Core.Logic.{◌↔◌}
use mathlib.Core.Bool.{Bool, true, false, cond}
use Prim.Native.Nat.{ℕ}
use Rattle.std.specs.Prelude.{Result, Ok, Err}
use native.Mathlib.Omega.{arith}
use Rattle.calculus.specs.Syntax.{Program}
use Rattle.calculus.specs.Calls.{SelfCalling, FromMain, NoSelfCall}
use Rattle.numbers.specs.Sizes.{Size}
use Rattle.numbers.specs.declared.Refusal.{Refusal}
use Rattle.recipe.specs.Rules.{judged, IsAdmitted}
use Rattle.recipe.specs.Statements.{program_of}
use Rattle.recipe.specs.Tables.{Table}
use Rattle.calls.specs.Reached.{wide}
use Rattle.calls.specs.Verdicts.{verdict_as, verdict_on}
use Rattle.calls.specs.declared.Verdict.{Verdict}
use Rattle.calls.specs.declared.Verdict.TheVariants as verdict
use Rattle.calls.proofs.ReachedLaws.{wide_some, some_wide, exact_no_self_call, no_self_call_exact}

module _ (z : Size) (t : Table) where
  pub refused_verdict : {r : Refusal} → judged z t ≡ Err r → Err r ≡ verdict_on z t
  unfolding verdict_on
  refused_verdict e = sym (ap (verdict_as (program_of t)) e)

  pub admitted_verdict :
      {b : Bool} {v : Verdict} → IsAdmitted z t → b ≡ wide (program_of t) → v ≡ cond b verdict.Wide verdict.Exact → Ok v ≡ verdict_on z t
  unfolding verdict_on
  admitted_verdict ok p q = ap Ok (q ∙ ap (λ (b : Bool). cond b verdict.Wide verdict.Exact) p) ∙ sym (ap (verdict_as (program_of t)) ok)

  pub wide_verdict : IsAdmitted z t → true ≡ wide (program_of t) → Ok verdict.Wide ≡ verdict_on z t
  wide_verdict ok p = admitted_verdict ok p refl

  pub exact_verdict : IsAdmitted z t → false ≡ wide (program_of t) → Ok verdict.Exact ≡ verdict_on z t
  exact_verdict ok p = admitted_verdict ok p refl

  -- only an admitted table has the verdict exact
  pub exact_admitted : verdict_on z t ≡ Ok verdict.Exact → IsAdmitted z t
  unfolding verdict_on
  exact_admitted e = go (judged z t) refl
    where
      go : (j : Result Unit Refusal) → judged z t ≡ j → judged z t ≡ Ok tt
      go (Ok admitted) f = f
      go (Err r) f = let n : ◌≡◌ {A = ℕ} 0 1 = cc (ap (verdict_as (program_of t)) f) in absurd (omega arith)

  -- ---- what an admitted table gives

  module _ (ok : IsAdmitted z t) where
    abbrev p : Program
    p = program_of t

    by_wide : (b : Bool) → wide p ≡ b → verdict_on z t ≡ Ok (cond b verdict.Wide verdict.Exact)
    by_wide b e = sym (admitted_verdict ok (sym e) refl)

    pub wide_given : Ok verdict.Wide ≡ verdict_on z t → true ≡ wide p
    wide_given e = go (wide p) refl
      where
        go : (b : Bool) → wide p ≡ b → true ≡ wide p
        go true f = sym f
        go false f = let n : ◌≡◌ {A = ℕ} 0 1 = cc (by_wide false f) in absurd (omega arith)

    pub exact_given : Ok verdict.Exact ≡ verdict_on z t → false ≡ wide p
    exact_given e = go (wide p) refl
      where
        go : (b : Bool) → wide p ≡ b → false ≡ wide p
        go false f = sym f
        go true f = let n : ◌≡◌ {A = ℕ} 0 1 = cc (by_wide true f) in absurd (omega arith)

    pub verdict_not_refused : {r : Refusal} → Err r ≡ verdict_on z t → ⊥
    verdict_not_refused {r} e = go (wide p) refl
      where
        go : (b : Bool) → wide p ≡ b → ⊥
        go false f = let n : ◌≡◌ {A = ℕ} 0 1 = cc (by_wide false f) in omega arith
        go true f = let n : ◌≡◌ {A = ℕ} 0 1 = cc (by_wide true f) in omega arith

    -- exact: no procedure that main can reach, main included, can reach itself
    pub exact_exactly : (verdict_on z t ≡ Ok verdict.Exact) ↔ NoSelfCall p
    exact_exactly = (λ e. exact_no_self_call p (sym (exact_given (sym e))), λ none. by_wide false (no_self_call_exact p none))

    -- wide: some procedure that main can reach, main included, can
    pub wide_exactly : (verdict_on z t ≡ Ok verdict.Wide) ↔ ((f : ℕ) × (FromMain p f × SelfCalling p f))
    wide_exactly =
        (λ e. wide_some p (sym (wide_given (sym e))), λ found. by_wide true (some_wide p found.0 found.1.0 found.1.1))
