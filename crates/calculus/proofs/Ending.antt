-- Which statements can end, and which control can pass, is told by their form: a run goes along the form.
-- Assumes nothing.
use Prim.Native.Nat.{ℕ}
use Rattle.calculus.specs.Syntax.{Stmt, skip, step, seq, loop, async, finish, call, Parallel, threads, thread}
use Rattle.calculus.specs.Syntax.{hole, in_first, in_second, in_async, in_finish, Program, body}
use Rattle.calculus.specs.Steps.{Reduces, go_on, threads_stay, leave_loop, thread_ends, wait_ends, take_step, copy_body}
use Rattle.calculus.specs.Steps.{Moves, within, Steps, stay, move}

-- The statement can become skip.
pub data Ends (p : Program) : Stmt → Type 0 where
  at_once : Ends p skip
  acted : {l : ℕ} → Ends p (step l)
  followed : {s t : Stmt} → Ends p s → Ends p t → Ends p (seq s t)
  left : {s : Stmt} → Ends p (loop s)
  spawned : {s : Stmt} → Ends p s → Ends p (async s)
  waited : {s : Stmt} → Ends p s → Ends p (finish s)
  called : {f : ℕ} → Ends p (body p f) → Ends p (call f)

-- Control can pass the statement: it can become skip or a parallel statement. A wait is passed only if its body ends wholly.
pub data Done (p : Program) : Stmt → Type 0 where
  at_once : Done p skip
  acted : {l : ℕ} → Done p (step l)
  followed : {s t : Stmt} → Done p s → Done p t → Done p (seq s t)
  left : {s : Stmt} → Done p (loop s)
  spawned : {s : Stmt} → Done p (async s)
  waited : {s : Stmt} → Ends p s → Done p (finish s)
  called : {f : ℕ} → Done p (body p f) → Done p (call f)

-- A run from s comes to a state of which Q holds.
pub record Can (p : Program) (s : Stmt) (Q : Stmt → Type 0) : Type 0 where
  pub state : Stmt
  pub run : Steps p s state
  pub holds : Q state

-- What moves, moves in this place of a larger statement too.
pub record Frame (p : Program) (F : Stmt → Stmt) : Type 0 where
  pub lift : (s t : Stmt) → Moves p s t → Moves p (F s) (F t)

-- The statement is skip.
pub data Skipped : Stmt → Type 0 where
  skipped : Skipped skip

-- Control has passed: skip, or threads that still run.
pub data Passed : Stmt → Type 0 where
  nothing_left : Passed skip
  threads_left : {s : Stmt} → Parallel s → Passed s

module _ {p : Program} where
  pub ends_done : {s : Stmt} → Ends p s → Done p s
  ends_done Ends.at_once = Done.at_once
  ends_done Ends.acted = Done.acted
  ends_done (Ends.followed h k) = Done.followed (ends_done h) (ends_done k)
  ends_done Ends.left = Done.left
  ends_done (Ends.spawned h) = Done.spawned
  ends_done (Ends.waited h) = Done.waited h
  ends_done (Ends.called h) = Done.called (ends_done h)

  pub parallel_done : {s : Stmt} → Parallel s → Done p s
  parallel_done (threads h k) = Done.followed (parallel_done h) (parallel_done k)
  parallel_done thread = Done.spawned

  first_lifts : (u s t : Stmt) → Moves p s t → Moves p (seq s u) (seq t u)
  first_lifts u s t (within c ok r) = within (in_first c u) ok r

  second_lifts : (u : Stmt) → Parallel u → (s t : Stmt) → Moves p s t → Moves p (seq u s) (seq u t)
  second_lifts u h s t (within c ok r) = within (in_second u c) (h, ok) r

  async_lifts : (s t : Stmt) → Moves p s t → Moves p (async s) (async t)
  async_lifts s t (within c ok r) = within (in_async c) ok r

  finish_lifts : (s t : Stmt) → Moves p s t → Moves p (finish s) (finish t)
  finish_lifts s t (within c ok r) = within (in_finish c) ok r

  pub under_first : (u : Stmt) → Frame p (λ s. seq s u)
  under_first u = record { lift = first_lifts u }

  pub under_second : {u : Stmt} → Parallel u → Frame p (seq u)
  under_second {u} h = record { lift = second_lifts u h }

  pub under_async : Frame p async
  under_async = record { lift = async_lifts }

  pub under_finish : Frame p finish
  under_finish = record { lift = finish_lifts }

  module _ {Q : Stmt → Type 0} where
    pub can_now : {s : Stmt} → Q s → Can p s Q
    can_now {s} q = record { state = s; run = stay; holds = q }

    pub can_reduce : {s t : Stmt} → Reduces p s t → Can p t Q → Can p s Q
    can_reduce r c = record { state = c.state; run = move (within hole tt r) c.run; holds = c.holds }

  framed_run : {F : Stmt → Stmt} {s t u : Stmt} → Frame p F → Steps p s t → Steps p (F t) u → Steps p (F s) u
  framed_run f stay after = after
  framed_run f (move m run) after = move (f.lift _ _ m) (framed_run f run after)

  -- A run of a part, and then a run of the whole.
  pub can_under :
      {F : Stmt → Stmt} {Q R : Stmt → Type 0} {s : Stmt} → Frame p F → Can p s Q → ((t : Stmt) → Q t → Can p (F t) R) → Can p (F s) R
  can_under f c next =
      let d = next c.state c.holds in
      record { state = d.state; run = framed_run f c.run d.run; holds = d.holds }

  pub can_map : {Q R : Stmt → Type 0} {s : Stmt} → Can p s Q → ((t : Stmt) → Q t → R t) → Can p s R
  can_map c f = record { state = c.state; run = c.run; holds = f c.state c.holds }

  -- What can be had of t, once s is passed.
  module _ {Q : Stmt → Type 0} where
    past : {s t : Stmt} → Passed s → Can p t Q → ((u v : Stmt) → Parallel u → Q v → Can p (seq u v) Q) → Can p (seq s t) Q
    past nothing_left c next = can_reduce go_on c
    past (threads_left {s = s} h) c next = can_under (under_second h) c (λ v q. next s v h q)

    pub can_after :
        {s t : Stmt} → Can p s Passed → Can p t Q → ((u v : Stmt) → Parallel u → Q v → Can p (seq u v) Q) → Can p (seq s t) Q
    can_after {s} {t} c d next = can_under (under_first t) c (λ u q. past q d next)

  emptied : (F : Stmt → Stmt) {Q : Stmt → Type 0} {s : Stmt} → Skipped s → Can p (F skip) Q → Can p (F s) Q
  emptied F skipped c = c

  -- A part that ends leaves what the whole then reduces to.
  can_end :
      {F : Stmt → Stmt} {Q : Stmt → Type 0} {s t : Stmt} → Frame p F → Can p s Skipped → Reduces p (F skip) t → Can p t Q → Can p (F s) Q
  can_end {F} f c r d = can_under f c (λ u q. emptied F q (can_reduce r d))

  -- What ends by its form has a run to skip.
  pub ends_can : {s : Stmt} → Ends p s → Can p s Skipped
  ends_can Ends.at_once = can_now skipped
  ends_can Ends.acted = can_reduce take_step (can_now skipped)
  ends_can (Ends.followed {t = t} h k) = can_end (under_first t) (ends_can h) go_on (ends_can k)
  ends_can Ends.left = can_reduce leave_loop (can_now skipped)
  ends_can (Ends.spawned h) = can_end under_async (ends_can h) thread_ends (can_now skipped)
  ends_can (Ends.waited h) = can_end under_finish (ends_can h) wait_ends (can_now skipped)
  ends_can (Ends.called h) = can_reduce copy_body (ends_can h)

  both_passed : (s t : Stmt) → Parallel s → Passed t → Can p (seq s t) Passed
  both_passed s t h nothing_left = can_reduce (threads_stay h) (can_now (threads_left h))
  both_passed s t h (threads_left k) = can_now (threads_left (threads h k))

  -- What control can pass by its form has a run to skip or to a parallel statement.
  pub done_can : {s : Stmt} → Done p s → Can p s Passed
  done_can Done.at_once = can_now nothing_left
  done_can Done.acted = can_reduce take_step (can_now nothing_left)
  done_can (Done.followed h k) = can_after (done_can h) (done_can k) both_passed
  done_can Done.left = can_reduce leave_loop (can_now nothing_left)
  done_can Done.spawned = can_now (threads_left thread)
  done_can (Done.waited h) = can_end under_finish (ends_can h) wait_ends (can_now nothing_left)
  done_can (Done.called h) = can_reduce copy_body (done_can h)
