-- Every statement but skip has a redex at an allowed context: the first part of s₁;s₂ is skip, or has one.
-- Assumes nothing.
use mathlib.Core.Path.{◌≡◌, refl, ap, ◌∙◌}
use mathlib.Core.Logic.{◌≢◌, ◌⊎◌, inl, inr}
use Rattle.calculus.specs.Syntax.{Stmt, skip, step, seq, loop, async, finish, call, thread, Context, hole, in_first, in_second, in_async, in_finish}
use Rattle.calculus.specs.Syntax.{Allowed, plug}
use Rattle.calculus.specs.Syntax.{Redex, skip_first, skip_second, a_loop, async_skip, finish_skip, a_step, a_call, Program, body}
use Rattle.calculus.specs.Steps.{Reduces, go_on, threads_stay, leave_loop, enter_loop, thread_ends, wait_ends, take_step, copy_body}
use Rattle.calculus.proofs.Cases.{apart}

-- The statement is C[R] with C allowed and R a redex.
pub record Decomposed (s : Stmt) : Type 0 where
  pub C : Context
  pub R : Stmt
  pub allowed : Allowed C
  pub redex : Redex R
  pub split : s ≡ plug C R

itself : (s : Stmt) → Redex s → Decomposed s
itself s r = record { C = hole; R = s; allowed = tt; redex = r; split = refl }

-- A statement with a hole for its first mover, F, as a context, K.
framed :
    (F : Stmt → Stmt) (K : Context → Context) →
    ((c : Context) → Allowed c → Allowed (K c)) →
    ((c : Context) (r : Stmt) → F (plug c r) ≡ plug (K c) r) →
    Redex (F skip) →
    (s : Stmt) →
    (s ≡ skip) ⊎ Decomposed s →
    Decomposed (F s)
framed F K ok same r s (inl e) = rw e (itself (F skip) r)
framed F K ok same r s (inr d) =
    record {
      C = K d.C;
      R = d.R;
      allowed = ok d.C d.allowed;
      redex = d.redex;
      split = ap F d.split ∙ same d.C d.R;
    }

-- Theorem 1: every statement is skip, or C[R] with C allowed and R a redex.
pub decomposed : (s : Stmt) → (s ≡ skip) ⊎ Decomposed s
decomposed skip = inl refl
decomposed (step l) = inr (itself (step l) a_step)
decomposed (seq s t) = inr (framed (λ u. seq u t) (λ c. in_first c t) (λ c h. h) (λ c r. refl) skip_first s (decomposed s))
decomposed (loop s) = inr (itself (loop s) a_loop)
decomposed (async s) = inr (framed async in_async (λ c h. h) (λ c r. refl) async_skip s (decomposed s))
decomposed (finish s) = inr (framed finish in_finish (λ c h. h) (λ c r. refl) finish_skip s (decomposed s))
decomposed (call f) = inr (itself (call f) a_call)

module _ (p : Program) where
  -- Section 2: every redex reduces to something.
  pub redex_reduces : {r : Stmt} → Redex r → (s : Stmt) × Reduces p r s
  redex_reduces (skip_first {s = s}) = (s, go_on)
  redex_reduces (skip_second {s = s} h) = (s, threads_stay h)
  redex_reduces a_loop = (skip, leave_loop)
  redex_reduces async_skip = (skip, thread_ends)
  redex_reduces finish_skip = (skip, wait_ends)
  redex_reduces a_step = (skip, take_step)
  redex_reduces (a_call {f = f}) = (body p f, copy_body)

  -- Nothing but a redex reduces.
  pub reduces_redex : {r s : Stmt} → Reduces p r s → Redex r
  reduces_redex go_on = skip_first
  reduces_redex (threads_stay h) = skip_second h
  reduces_redex leave_loop = a_loop
  reduces_redex enter_loop = a_loop
  reduces_redex thread_ends = async_skip
  reduces_redex wait_ends = finish_skip
  reduces_redex take_step = a_step
  reduces_redex copy_body = a_call

-- The remark beside theorem 1: (async 5);(async skip) is C[R] in two ways.
two_ways :
    (x : Decomposed (seq (async (step 5)) (async skip))) × (y : Decomposed (seq (async (step 5)) (async skip))) × (x.C ≢ y.C)
two_ways = (
  record { C = in_first (in_async hole) (async skip); R = step 5; allowed = tt; redex = a_step; split = refl },
  record { C = in_second (async (step 5)) hole; R = async skip; allowed = (thread, tt); redex = async_skip; split = refl },
  apart,
)
