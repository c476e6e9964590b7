-- The rules that give each statement its summary (section 4 and figure 3 of the paper). A set is a predicate.
use Rattle.std.specs.Prelude.{◌≡◌, ◌⊎◌, ℕ}
use Rattle.calculus.specs.Syntax.{Stmt, skip, step, seq, loop, async, finish, call, Program, body}

-- Section 4: M, the pairs that may run together; O, the labels that may still run once the statement has completed; L, the labels that run.
pub record Summary : Type 1 where
  pub M : ℕ → ℕ → Type 0
  pub O : ℕ → Type 0
  pub L : ℕ → Type 0

-- Section 4, symcross: every (a, b) and every (b, a) with a of A and b of B.
abbrev pub Symcross : (ℕ → Type 0) → (ℕ → Type 0) → ℕ → ℕ → Type 0
Symcross A B l₁ l₂ = (A l₁ × B l₂) ⊎ (B l₁ × A l₂)

-- Rule (10), of s₁;s₂.
abbrev pub followed : Summary → Summary → Summary
followed x y =
    record {
      M = λ l₁ l₂. x.M l₁ l₂ ⊎ y.M l₁ l₂ ⊎ Symcross x.O y.L l₁ l₂;
      O = λ l. x.O l ⊎ y.O l;
      L = λ l. x.L l ⊎ y.L l;
    }

-- Rule (11), of loop s.
abbrev pub looped : Summary → Summary
looped x = record { M = λ l₁ l₂. x.M l₁ l₂ ⊎ Symcross x.O x.L l₁ l₂; O = x.O; L = x.L }

-- Rule (12), of async s.
abbrev pub spawned : Summary → Summary
spawned x = record { M = x.M; O = x.L; L = x.L }

-- Rule (13), of finish s.
abbrev pub waited : Summary → Summary
waited x = record { M = x.M; O = λ l. ⊥; L = x.L }

-- Rule (14), of a step.
abbrev pub stepped : ℕ → Summary
stepped k = record { M = λ l₁ l₂. ⊥; O = λ l. ⊥; L = λ l. k ≡ l }

-- Rule (15), of skip.
abbrev pub nothing : Summary
nothing = record { M = λ l₁ l₂. ⊥; O = λ l. ⊥; L = λ l. ⊥ }

-- Rules (10) to (16): the summary of a statement where B has one for each procedure; a call has that of its procedure (16).
abbrev pub summary_of : (ℕ → Summary) → Stmt → Summary
summary_of B skip = nothing
summary_of B (step l) = stepped l
summary_of B (seq s t) = followed (summary_of B s) (summary_of B t)
summary_of B (loop s) = looped (summary_of B s)
summary_of B (async s) = spawned (summary_of B s)
summary_of B (finish s) = waited (summary_of B s)
summary_of B (call f) = B f

-- Each of the three sets of x is a part of that of y.
pub record Inside (x y : Summary) : Type 0 where
  pub M : (l₁ l₂ : ℕ) → x.M l₁ l₂ → y.M l₁ l₂
  pub O : (l : ℕ) → x.O l → y.O l
  pub L : (l : ℕ) → x.L l → y.L l

-- Rule (17): B gives each procedure the summary of its body, no more and no less.
pub record Solution (p : Program) (B : ℕ → Summary) : Type 0 where
  pub no_more : (f : ℕ) → Inside (B f) (summary_of B (body p f))
  pub no_less : (f : ℕ) → Inside (summary_of B (body p f)) (B f)

-- The least solution: one that lies inside every solution. (The paper's rule (17) asks for no least one.)
pub record Least (p : Program) (B : ℕ → Summary) : Type 1 where
  pub solution : Solution p B
  pub inside : (A : ℕ → Summary) → Solution p A → (f : ℕ) → Inside (B f) (A f)
