-- Which procedures call which, and what it is to call oneself (the condition of theorem 7, section 4 of the paper).
use Rattle.std.specs.Prelude.{◌≡◌, ◌⊎◌, ℕ}
use Rattle.calculus.specs.Syntax.{Stmt, skip, step, seq, loop, async, finish, call, Program, body}

-- A call of f stands in the statement.
abbrev pub CallsIn : Stmt → ℕ → Type 0
CallsIn skip f = ⊥
CallsIn (step l) f = ⊥
CallsIn (seq s t) f = CallsIn s f ⊎ CallsIn t f
CallsIn (loop s) f = CallsIn s f
CallsIn (async s) f = CallsIn s f
CallsIn (finish s) f = CallsIn s f
CallsIn (call g) f = g ≡ f

-- The body of f holds a call of g.
abbrev pub Calls : Program → ℕ → ℕ → Type 0
Calls p f g = CallsIn (body p f) g

-- From f to g by one or more calls.
pub data Reaches (p : Program) : ℕ → ℕ → Type 0 where
  one : {f g : ℕ} → Calls p f g → Reaches p f g
  more : {f g h : ℕ} → Calls p f g → Reaches p g h → Reaches p f h

-- f can reach itself by calls.
abbrev pub SelfCalling : Program → ℕ → Type 0
SelfCalling p f = Reaches p f f

-- f is main, or main can reach f by calls.
abbrev pub FromMain : Program → ℕ → Type 0
FromMain p f = (f ≡ 0) ⊎ Reaches p 0 f

-- No procedure that main can reach, main included, can reach itself.
abbrev pub NoSelfCall : Program → Type 0
NoSelfCall p = (f : ℕ) → FromMain p f → ¬ SelfCalling p f
