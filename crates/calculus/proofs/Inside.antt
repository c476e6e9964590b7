-- Every rule grows with the summaries that it is given, since each is made of unions and products.
-- Assumes nothing.
use mathlib.Core.Logic.{◌⊎◌, ⊎_map}
use Prim.Native.Nat.{ℕ}
use Rattle.calculus.specs.Syntax.{Stmt, skip, step, seq, loop, async, finish, call, Program, body}
use Rattle.calculus.specs.Rules.{Summary, Symcross, followed, looped, spawned, waited, nothing, summary_of, Inside, Least}

pub inside_refl : (x : Summary) → Inside x x
inside_refl x = record { M = λ l₁ l₂ h. h; O = λ l h. h; L = λ l h. h }

pub inside_trans : {x y z : Summary} → Inside x y → Inside y z → Inside x z
inside_trans i j =
    record { M = λ l₁ l₂ h. j.M l₁ l₂ (i.M l₁ l₂ h); O = λ l h. j.O l (i.O l h); L = λ l h. j.L l (i.L l h) }

pub nothing_inside : (x : Summary) → Inside nothing x
nothing_inside x = record { M = λ l₁ l₂ h. absurd h; O = λ l h. absurd h; L = λ l h. absurd h }

-- Both sides of a crossing, part by part.
pub both :
    {A A' B B' C C' D D' : Type 0} →
    (A → A') →
    (B → B') →
    (C → C') →
    (D → D') →
    (A × B) ⊎ (C × D) →
    (A' × B') ⊎ (C' × D')
both f g h k = ⊎_map (λ x. (f x.0, g x.1)) (λ x. (h x.0, k x.1))

pub crossed_inside :
    {A A' B B' : ℕ → Type 0} →
    ((l : ℕ) → A l → A' l) →
    ((l : ℕ) → B l → B' l) →
    (l₁ l₂ : ℕ) →
    Symcross A B l₁ l₂ →
    Symcross A' B' l₁ l₂
crossed_inside f g l₁ l₂ = both (f l₁) (g l₂) (g l₁) (f l₂)

pub joined_inside : {x x' y y' : Summary} → Inside x x' → Inside y y' → Inside (followed x y) (followed x' y')
joined_inside i j =
    record {
      M = λ l₁ l₂. ⊎_map (i.M l₁ l₂) (⊎_map (j.M l₁ l₂) (crossed_inside i.O j.L l₁ l₂));
      O = λ l. ⊎_map (i.O l) (j.O l);
      L = λ l. ⊎_map (i.L l) (j.L l);
    }

pub looped_inside : {x x' : Summary} → Inside x x' → Inside (looped x) (looped x')
looped_inside i =
    record { M = λ l₁ l₂. ⊎_map (i.M l₁ l₂) (crossed_inside i.O i.L l₁ l₂); O = i.O; L = i.L }

pub spawned_inside : {x x' : Summary} → Inside x x' → Inside (spawned x) (spawned x')
spawned_inside i = record { M = i.M; O = i.L; L = i.L }

pub waited_inside : {x x' : Summary} → Inside x x' → Inside (waited x) (waited x')
waited_inside i = record { M = i.M; O = λ l h. h; L = i.L }

-- Larger summaries of the procedures give larger summaries of every statement.
pub summary_monotone :
    {A B : ℕ → Summary} → ((f : ℕ) → Inside (A f) (B f)) → (s : Stmt) → Inside (summary_of A s) (summary_of B s)
summary_monotone {A} {B} i skip = inside_refl (summary_of A skip)
summary_monotone {A} {B} i (step l) = inside_refl (summary_of A (step l))
summary_monotone i (seq s t) = joined_inside (summary_monotone i s) (summary_monotone i t)
summary_monotone i (loop s) = looped_inside (summary_monotone i s)
summary_monotone i (async s) = spawned_inside (summary_monotone i s)
summary_monotone i (finish s) = waited_inside (summary_monotone i s)
summary_monotone i (call f) = i f

-- Half of rule (17), which is all that most theorems need: the summary of each body lies inside what B has for the procedure.
abbrev pub Closed : Program → (ℕ → Summary) → Type 0
Closed p B = (f : ℕ) → Inside (summary_of B (body p f)) (B f)

-- Two least solutions are the same.
pub least_unique : {p : Program} {A B : ℕ → Summary} → Least p A → Least p B → (f : ℕ) → Inside (A f) (B f) × Inside (B f) (A f)
least_unique {p} {A} {B} a b f = (a.inside B b.solution f, b.inside A a.solution f)
