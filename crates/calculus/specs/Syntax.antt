-- The grammar of statements, contexts, parallel statements and redexes (figure 2 of the paper), and programs (section 2).
-- Labels and procedure names are numbers.
use Rattle.std.specs.Prelude.{List, ℕ, get_or}

-- Figure 2, Statement: nothing, a labelled step, one after the other, a loop, a spawned thread, a wait for what its body spawned, a call.
pub data Stmt : Type 0 where
  skip : Stmt
  step : ℕ → Stmt
  seq : Stmt → Stmt → Stmt
  loop : Stmt → Stmt
  async : Stmt → Stmt
  finish : Stmt → Stmt
  call : ℕ → Stmt

-- Figure 2, ParStatement: spawned threads, one or more.
pub data Parallel : Stmt → Type 0 where
  threads : {s t : Stmt} → Parallel s → Parallel t → Parallel (seq s t)
  thread : {s : Stmt} → Parallel (async s)

-- Figure 2, Context, as raw data: the hole, C;s, s;C, async C, finish C.
pub data Context : Type 0 where
  hole : Context
  in_first : Context → Stmt → Context
  in_second : Stmt → Context → Context
  in_async : Context → Context
  in_finish : Context → Context

-- Figure 2, Context: what stands before the hole in s;C is a parallel statement.
abbrev pub Allowed : Context → Type 0
Allowed hole = Unit {0}
Allowed (in_first c s) = Allowed c
Allowed (in_second s c) = Parallel s × Allowed c
Allowed (in_async c) = Allowed c
Allowed (in_finish c) = Allowed c

-- Figure 2, C[s]: the context with the statement in its hole.
abbrev pub plug : Context → Stmt → Stmt
plug hole r = r
plug (in_first c s) r = seq (plug c r) s
plug (in_second s c) r = seq s (plug c r)
plug (in_async c) r = async (plug c r)
plug (in_finish c) r = finish (plug c r)

-- Figure 2, Redex: what can move where it stands.
pub data Redex : Stmt → Type 0 where
  skip_first : {s : Stmt} → Redex (seq skip s)
  skip_second : {s : Stmt} → Parallel s → Redex (seq s skip)
  a_loop : {s : Stmt} → Redex (loop s)
  async_skip : Redex (async skip)
  finish_skip : Redex (finish skip)
  a_step : {l : ℕ} → Redex (step l)
  a_call : {f : ℕ} → Redex (call f)

-- Section 2: a program is its procedures' bodies, in order; procedure 0 is main.
abbrev pub Program : Type 0
Program = List Stmt

-- Section 2, body(f): the body of procedure f; skip where there is no procedure f.
abbrev pub body : Program → ℕ → Stmt
body p f = get_or p f skip
