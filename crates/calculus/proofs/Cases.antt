-- Small cases that show what the definitions say, each computed: pairs that are and are not in a summary, places that are and are not enabled,
-- what moves and what does not, and whose calls count.
-- Assumes nothing.
use mathlib.Core.Path.{◌≡◌, refl}
use mathlib.Core.Logic.{◌≢◌, inl, inr}
use mathlib.Core.List.{[], ◌∷◌}
use Prim.Native.Nat.{ℕ}
use native.Mathlib.Omega.{arith}
use Rattle.calculus.specs.Syntax.{Stmt, skip, step, seq, loop, async, finish, call, Parallel, thread}
use Rattle.calculus.specs.Syntax.{Context, hole, in_first, in_second, in_async, in_finish, Allowed, plug, Redex, skip_second, Program}
use Rattle.calculus.specs.Steps.{Reduces, go_on, threads_stay, leave_loop, enter_loop, thread_ends, wait_ends, take_step, copy_body}
use Rattle.calculus.specs.Steps.{Moves, within, stay, move}
use Rattle.calculus.specs.Enabled.{BothEnabled, MayMeet}
use Rattle.calculus.specs.Rules.{Summary, summary_of}
use Rattle.calculus.specs.Calls.{Reaches, one, more, SelfCalling, NoSelfCall}

-- C;s and s;C are two contexts.
pub apart : {c d : Context} {s t : Stmt} → in_first c s ≢ in_second t d
apart e = let z : ◌≡◌ {A = ℕ} 0 1 = cc in omega arith

module _ (B : ℕ → Summary) where
  -- async{5};6 has (5, 6) and (6, 5).
  spawned_meets : (summary_of B (seq (async (step 5)) (step 6))).M 5 6
  spawned_meets = inr (inr (inl (refl, refl)))

  spawned_meets_back : (summary_of B (seq (async (step 5)) (step 6))).M 6 5
  spawned_meets_back = inr (inr (inr (refl, refl)))

  -- finish{async{5};6} has (5, 6), and finish{async{5}};6 has no pair.
  waited_meets : (summary_of B (finish (seq (async (step 5)) (step 6)))).M 5 6
  waited_meets = inr (inr (inl (refl, refl)))

  waited_apart : (l₁ l₂ : ℕ) → ¬ (summary_of B (seq (finish (async (step 5))) (step 6))).M l₁ l₂
  waited_apart l₁ l₂ (inl m) = m
  waited_apart l₁ l₂ (inr (inl m)) = m
  waited_apart l₁ l₂ (inr (inr (inl m))) = m.0
  waited_apart l₁ l₂ (inr (inr (inr m))) = m.1

  -- loop{async{0}} has (0, 0), and loop{0} has no pair.
  turns_meet : (summary_of B (loop (async (step 0)))).M 0 0
  turns_meet = inr (inl (refl, refl))

  turns_apart : (l₁ l₂ : ℕ) → ¬ (summary_of B (loop (step 0))).M l₁ l₂
  turns_apart l₁ l₂ (inl m) = m
  turns_apart l₁ l₂ (inr (inl m)) = m.0
  turns_apart l₁ l₂ (inr (inr m)) = m.1

-- Nothing is enabled behind a step.
no_thread : {l : ℕ} → ¬ Parallel (step l)
no_thread h = elim h [ ]

behind_a_step : ¬ Allowed (in_second (step 5) hole)
behind_a_step h = no_thread h.0

not_parallel : (l : ℕ) {s : Stmt} → Parallel s → s ≢ step l
not_parallel l h e = no_thread (rw e at h)

-- l;skip is no redex, and reduces to nothing where it stands: rule (3) is of threads.
step_then_skip_no_redex : {l : ℕ} → ¬ Redex (seq (step l) skip)
step_then_skip_no_redex (skip_second h) = no_thread h

step_then_skip_not_reduced : {p : Program} {l : ℕ} {t : Stmt} → ¬ Reduces p (seq (step l) skip) t
step_then_skip_not_reduced (threads_stay h) = no_thread h

-- Nothing moves behind a step: l;s moves to skip;s and to nothing else.
module _ {p : Program} {l : ℕ} where
  step_reduced : {r t : Stmt} → Reduces p r t → r ≡ step l → t ≡ skip
  step_reduced go_on e = cc
  step_reduced (threads_stay h) e = cc
  step_reduced leave_loop e = refl
  step_reduced enter_loop e = cc
  step_reduced thread_ends e = refl
  step_reduced wait_ends e = refl
  step_reduced take_step e = refl
  step_reduced copy_body e = cc

  step_moved : {r t : Stmt} (c : Context) → Reduces p r t → plug c r ≡ step l → plug c t ≡ skip
  step_moved hole h e = step_reduced h e
  step_moved (in_first c s) h e = cc
  step_moved (in_second s c) h e = cc
  step_moved (in_async c) h e = cc
  step_moved (in_finish c) h e = cc

  first_reduced : {r s t : Stmt} → Reduces p r t → r ≡ seq (step l) s → t ≡ seq skip s
  first_reduced go_on e = cc
  first_reduced (threads_stay h) e = absurd (not_parallel l h (cc))
  first_reduced leave_loop e = cc
  first_reduced enter_loop e = cc
  first_reduced thread_ends e = cc
  first_reduced wait_ends e = cc
  first_reduced take_step e = cc
  first_reduced copy_body e = cc

  first_moved : {r s t : Stmt} (c : Context) → Allowed c → Reduces p r t → plug c r ≡ seq (step l) s → plug c t ≡ seq skip s
  first_moved hole ok h e = first_reduced h e
  first_moved {r} {s} {t} (in_first c u) ok h e =
      let moved : plug c t ≡ skip = step_moved c h (cc) in
      cc
  first_moved (in_second u c) ok h e = absurd (not_parallel l ok.0 (cc))
  first_moved (in_async c) ok h e = cc
  first_moved (in_finish c) ok h e = cc

  of_step_first : {r s t : Stmt} → Moves p r t → r ≡ seq (step l) s → t ≡ seq skip s
  of_step_first (within c ok h) e = first_moved c ok h e

  nothing_moves_behind_a_step : {s t : Stmt} → Moves p (seq (step l) s) t → t ≡ seq skip s
  nothing_moves_behind_a_step m = of_step_first m refl

-- A procedure that main does not reach may call itself, and no self-call is counted.
abbrev unreached : Program
unreached = skip ∷ call 1 ∷ []

nothing_reached : {f : ℕ} → ¬ Reaches unreached 0 f
nothing_reached (one c) = c
nothing_reached (more c r) = c

unreached_calls_itself : SelfCalling unreached 1
unreached_calls_itself = one refl

unreached_not_counted : NoSelfCall unreached
unreached_not_counted f (inl e) r = nothing_reached (rw e at r)
unreached_not_counted f (inr m) r = nothing_reached m

-- A step alone is enabled at one place.
one_place : (l : ℕ) (c : Context) → step l ≡ plug c (step l) → c ≡ hole
one_place l hole e = refl
one_place l (in_first c s) e = let z : ◌≡◌ {A = ℕ} 0 1 = cc in absurd (omega arith)
one_place l (in_second s c) e = let z : ◌≡◌ {A = ℕ} 0 1 = cc in absurd (omega arith)
one_place l (in_async c) e = let z : ◌≡◌ {A = ℕ} 0 1 = cc in absurd (omega arith)
one_place l (in_finish c) e = let z : ◌≡◌ {A = ℕ} 0 1 = cc in absurd (omega arith)

step_once : (l : ℕ) → ¬ BothEnabled (step l) l l
step_once l e =
    let same : e.C₁ ≡ e.C₂ = cc (one_place l e.C₁ e.at₁, one_place l e.C₂ e.at₂) in
    e.different same

-- Section 3's remark: (async 5);6 has 5 and 6 enabled.
threads_enabled : BothEnabled (seq (async (step 5)) (step 6)) 5 6
threads_enabled =
    record {
      C₁ = in_first (in_async hole) (step 6);
      C₂ = in_second (async (step 5)) hole;
      different = apart;
      allowed₁ = tt;
      allowed₂ = (thread, tt);
      at₁ = refl;
      at₂ = refl;
    }

-- loop{async{0}} comes in two steps to a state with 0 enabled at two places.
turns_enabled : MayMeet [] (loop (async (step 0))) 0 0
turns_enabled =
    record {
      state = seq (async (step 0)) (seq (async (step 0)) (loop (async (step 0))));
      run = move (within hole tt enter_loop) (move (within (in_second (async (step 0)) hole) (thread, tt) enter_loop) stay);
      enabled =
          record {
            C₁ = in_first (in_async hole) (seq (async (step 0)) (loop (async (step 0))));
            C₂ = in_second (async (step 0)) (in_first (in_async hole) (loop (async (step 0))));
            different = apart;
            allowed₁ = tt;
            allowed₂ = (thread, tt);
            at₁ = refl;
            at₂ = refl;
          };
    }
