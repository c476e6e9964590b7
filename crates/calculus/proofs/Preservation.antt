-- A step adds nothing to a statement's summary: each rule's right side is built of parts of its left side's sets, and the rules grow with their parts.
-- Assumes nothing.
use mathlib.Core.Logic.{◌⊎◌, inl, inr}
use Prim.Native.Nat.{ℕ}
use Rattle.calculus.specs.Syntax.{Stmt, Context, hole, in_first, in_second, in_async, in_finish, plug, Program}
use Rattle.calculus.specs.Steps.{Reduces, go_on, threads_stay, leave_loop, enter_loop, thread_ends, wait_ends, take_step, copy_body}
use Rattle.calculus.specs.Steps.{Moves, within, Steps, stay, move}
use Rattle.calculus.specs.Rules.{Summary, followed, looped, nothing, summary_of, Inside}
use Rattle.calculus.proofs.Inside.{Closed, inside_refl, inside_trans, nothing_inside, joined_inside, spawned_inside, waited_inside}

first_inside : (x y : Summary) → Inside x (followed x y)
first_inside x y = record { M = λ l₁ l₂. inl; O = λ l. inl; L = λ l. inl }

second_inside : (x y : Summary) → Inside y (followed x y)
second_inside x y = record { M = λ l₁ l₂ h. inr (inl h); O = λ l. inr; L = λ l. inr }

once_more : {A : Type 0} → A ⊎ A → A
once_more (inl a) = a
once_more (inr a) = a

-- A turn of the loop and the loop again are the loop: unions alone.
unrolled_inside : (x : Summary) → Inside (followed x (looped x)) (looped x)
unrolled_inside x = record { M = λ l₁ l₂. pair l₁ l₂; O = λ l. once_more; L = λ l. once_more }
  where
    pair : (l₁ l₂ : ℕ) → (followed x (looped x)).M l₁ l₂ → (looped x).M l₁ l₂
    pair l₁ l₂ (inl m) = inl m
    pair l₁ l₂ (inr (inl m)) = m
    pair l₁ l₂ (inr (inr c)) = inr c

module _ (p : Program) (B : ℕ → Summary) (closed : Closed p B) where
  -- Theorem 4: a redex that reduces.
  pub reduced_inside : {r s : Stmt} → Reduces p r s → Inside (summary_of B s) (summary_of B r)
  reduced_inside (go_on {s = s}) = second_inside nothing (summary_of B s)
  reduced_inside (threads_stay {s = s} h) = first_inside (summary_of B s) nothing
  reduced_inside (leave_loop {s = s}) = nothing_inside (looped (summary_of B s))
  reduced_inside (enter_loop {s = s}) = unrolled_inside (summary_of B s)
  reduced_inside thread_ends = nothing_inside _
  reduced_inside wait_ends = nothing_inside _
  reduced_inside take_step = nothing_inside _
  reduced_inside (copy_body {f = f}) = closed f

  plugged_inside : (c : Context) (r s : Stmt) → Inside (summary_of B s) (summary_of B r) → Inside (summary_of B (plug c s)) (summary_of B (plug c r))
  plugged_inside hole r s i = i
  plugged_inside (in_first c t) r s i = joined_inside (plugged_inside c r s i) (inside_refl (summary_of B t))
  plugged_inside (in_second t c) r s i = joined_inside (inside_refl (summary_of B t)) (plugged_inside c r s i)
  plugged_inside (in_async c) r s i = spawned_inside (plugged_inside c r s i)
  plugged_inside (in_finish c) r s i = waited_inside (plugged_inside c r s i)

  -- Theorem 5: one step.
  pub moved_inside : {s t : Stmt} → Moves p s t → Inside (summary_of B t) (summary_of B s)
  moved_inside (within {r = r} {s = s} c ok h) = plugged_inside c r s (reduced_inside h)

  -- Theorem 5, for finitely many steps.
  pub steps_inside : {s t : Stmt} → Steps p s t → Inside (summary_of B t) (summary_of B s)
  steps_inside (stay {s = s}) = inside_refl (summary_of B s)
  steps_inside (move m run) = inside_trans (steps_inside run) (moved_inside m)
