-- What the other crates cite: the paper's theorems for the body of main and a solution B of the program's rules.
-- Theorems 2 and 3 need no proof here, since the rules are a function of the statement. Each of the rest is put together from the files named beside it.
-- Assumes nothing.
use mathlib.Core.Path.{refl}
use mathlib.Core.Logic.{inl, ◌↔◌}
use Prim.Native.Nat.{ℕ}
use Rattle.calculus.specs.Syntax.{Stmt, call, Program, body}
use Rattle.calculus.specs.Steps.{Steps}
use Rattle.calculus.specs.Enabled.{MayMeet}
use Rattle.calculus.specs.Rules.{Summary, summary_of, Inside, Solution, Least}
use Rattle.calculus.specs.Calls.{NoSelfCall}
use Rattle.calculus.proofs.Inside.{inside_trans}
use Rattle.calculus.proofs.Preservation.{steps_inside}
use Rattle.calculus.proofs.Derivations.{Meets, derived, derived_least, least_derived}
use Rattle.calculus.proofs.Places.{may_meet_marked}
use Rattle.calculus.proofs.Ending.{Done}
use Rattle.calculus.proofs.Realisation.{meets_may_meet}
use Rattle.calculus.proofs.Exactness.{may_meet_meets}
use Rattle.calculus.proofs.NoSelfCall.{body_of_main, meets_guarded}

module _ {p : Program} {B : ℕ → Summary} where
  -- Rule (16) with rule (17): a call has the summary of the body.
  pub call_body : Solution p B → (f : ℕ) → Inside (summary_of B (call f)) (summary_of B (body p f))
  call_body h = h.no_more

  pub body_call : Solution p B → (f : ℕ) → Inside (summary_of B (body p f)) (summary_of B (call f))
  body_call h = h.no_less

  -- A solution that lies inside the derivations is the least one.
  pub least_of_derived : Solution p B → ((f : ℕ) → Inside (B f) (derived p f)) → Least p B
  least_of_derived h i =
      record { solution = h; inside = λ A k f. inside_trans (i f) ((derived_least p).inside A k f) }

  -- Theorems 4 and 5: no state of a run of main has a pair, a running label or a left-over label that main's summary lacks (Preservation).
  pub no_new : {s : Stmt} → Solution p B → Steps p (body p 0) s → Inside (summary_of B s) (B 0)
  no_new h run = inside_trans (steps_inside p B h.no_less run) (h.no_less 0)

  -- Theorem 6: labels that may meet in a run of main are a pair of main's summary (Places).
  pub marked : {l₁ l₂ : ℕ} → Solution p B → MayMeet p (body p 0) l₁ l₂ → (B 0).M l₁ l₂
  marked {l₁} {l₂} h m = (h.no_less 0).M l₁ l₂ (may_meet_marked h m)

  -- Theorem 7: without self-calls, each pair of main in the least solution meets in a run of main (NoSelfCall, Realisation).
  pub met : {l₁ l₂ : ℕ} → NoSelfCall p → Least p B → (B 0).M l₁ l₂ → MayMeet p (body p 0) l₁ l₂
  met {l₁} {l₂} acyclic h m =
      meets_may_meet
      (meets_guarded p acyclic (body_of_main p 0 (inl refl))
      ((least_derived p h (body p 0)).M l₁ l₂ ((h.solution.no_more 0).M l₁ l₂ m)))

  -- Theorem 7, whole: without self-calls, main's pairs in the least solution are exactly those that may meet.
  pub exact : {l₁ l₂ : ℕ} → NoSelfCall p → Least p B → MayMeet p (body p 0) l₁ l₂ ↔ (B 0).M l₁ l₂
  exact acyclic h = (marked h.solution, met acyclic h)

-- With self-calls or without: the guarded derivations of a statement are exactly the pairs that may meet (Exactness, Realisation).
pub guarded_exact : {p : Program} {s : Stmt} {l₁ l₂ : ℕ} → MayMeet p s l₁ l₂ ↔ Meets p (Done p) s l₁ l₂
guarded_exact {p} = (may_meet_meets p, meets_may_meet)
