-- The steps of a run (section 2 of the paper): a redex reduces inside an allowed context.
use Rattle.std.specs.Prelude.{ℕ}
use Rattle.calculus.specs.Syntax.{Stmt, skip, step, seq, loop, async, finish, call, Parallel, Context, Allowed, plug, Program, body}

-- Rules (2) to (9), a redex reduces: one constructor a rule, in order.
pub data Reduces (p : Program) : Stmt → Stmt → Type 0 where
  -- (2) skip is passed
  go_on : {s : Stmt} → Reduces p (seq skip s) s
  -- (3) nothing follows the threads
  threads_stay : {s : Stmt} → Parallel s → Reduces p (seq s skip) s
  -- (4) no further turn
  leave_loop : {s : Stmt} → Reduces p (loop s) skip
  -- (5) a turn, and the loop again
  enter_loop : {s : Stmt} → Reduces p (loop s) (seq s (loop s))
  -- (6) a thread is over
  thread_ends : Reduces p (async skip) skip
  -- (7) a wait is over
  wait_ends : Reduces p (finish skip) skip
  -- (8) a step is taken
  take_step : {l : ℕ} → Reduces p (step l) skip
  -- (9) the body takes the place of the call
  copy_body : {f : ℕ} → Reduces p (call f) (body p f)

-- Section 2, s ↦ s': C[r] moves to C[s] where r reduces to s.
pub data Moves (p : Program) : Stmt → Stmt → Type 0 where
  within : {r s : Stmt} (c : Context) → Allowed c → Reduces p r s → Moves p (plug c r) (plug c s)

-- Section 2, s ↦* s': finitely many moves.
pub data Steps (p : Program) : Stmt → Stmt → Type 0 where
  stay : {s : Stmt} → Steps p s s
  move : {s t u : Stmt} → Moves p s t → Steps p t u → Steps p s u
