-- The question that the analysis answers (section 3 of the paper): which labels can be enabled at two places at once.
use Rattle.std.specs.Prelude.{◌≡◌, ◌≢◌, ℕ}
use Rattle.calculus.specs.Syntax.{Stmt, step, Context, Allowed, plug, Program}
use Rattle.calculus.specs.Steps.{Steps}

-- Section 3, CBE(s, l₁, l₂): s is C₁[step l₁] and C₂[step l₂] for two different allowed contexts.
pub record BothEnabled (s : Stmt) (l₁ l₂ : ℕ) : Type 0 where
  pub C₁ : Context
  pub C₂ : Context
  pub different : C₁ ≢ C₂
  pub allowed₁ : Allowed C₁
  pub allowed₂ : Allowed C₂
  pub at₁ : s ≡ plug C₁ (step l₁)
  pub at₂ : s ≡ plug C₂ (step l₂)

-- Section 3, MHPsem: some state that a run from s comes to has the two labels enabled.
pub record MayMeet (p : Program) (s : Stmt) (l₁ l₂ : ℕ) : Type 0 where
  pub state : Stmt
  pub run : Steps p s state
  pub enabled : BothEnabled state l₁ l₂
