-- What self-calls break. The least solution can hold a pair that no run enables: what begins with a call of g, where g's body does so too,
-- does nothing and is never passed, and the rules do not see that.
-- And a solution that is not the least can be anything at all, so that O need not lie inside L, nor M be symmetric.
-- Assumes nothing.
use mathlib.Core.Logic.{inl, inr}
use mathlib.Core.List.{[], ◌∷◌}
use Prim.Native.Nat.{ℕ, zero, suc}
use Rattle.calculus.specs.Syntax.{Stmt, step, seq, loop, async, call, Program, body}
use Rattle.calculus.specs.Enabled.{MayMeet}
use Rattle.calculus.specs.Rules.{Summary, nothing, summary_of, Inside, Solution}
use Rattle.calculus.proofs.Inside.{inside_refl}
use Rattle.calculus.proofs.Derivations.{Runs, Stays, Meets, Free, derived_at, stays_runs, derived_inside}
use Rattle.calculus.proofs.Ending.{Done}
use Rattle.calculus.proofs.Exactness.{may_meet_meets}

-- The statement begins with a call of g.
data Begins (g : ℕ) : Stmt → Type 0 where
  at_call : Begins g (call g)
  under_first : {s t : Stmt} → Begins g s → Begins g (seq s t)

module _ (p : Program) (g : ℕ) (again : Begins g (body p g)) where
  -- Control never passes it.
  stuck : {s : Stmt} → Done p s → ¬ Begins g s
  stuck (Done.followed d e) (under_first i) = stuck d i
  stuck (Done.called d) at_call = stuck d again
  stuck Done.at_once i = elim i [ ]
  stuck Done.acted i = elim i [ ]
  stuck Done.left i = elim i [ ]
  stuck Done.spawned i = elim i [ ]
  stuck (Done.waited _) i = elim i [ ]

  none_runs : {s : Stmt} {l : ℕ} → Runs p (Done p) s l → ¬ Begins g s
  none_runs (Runs.first h) (under_first i) = none_runs h i
  none_runs (Runs.second d h) (under_first i) = stuck d i
  none_runs (Runs.called h) at_call = none_runs h again
  none_runs Runs.now i = elim i [ ]
  none_runs (Runs.looped _) i = elim i [ ]
  none_runs (Runs.spawned _) i = elim i [ ]
  none_runs (Runs.waited _) i = elim i [ ]

  none_stays : {s : Stmt} {l : ℕ} → Stays p (Done p) s l → ¬ Begins g s
  none_stays h = none_runs (stays_runs p (Done p) h)

  none_meet : {s : Stmt} {a b : ℕ} → Meets p (Done p) s a b → ¬ Begins g s
  none_meet (Meets.first m) (under_first i) = none_meet m i
  none_meet (Meets.second d m) (under_first i) = stuck d i
  none_meet (Meets.across (inl h)) (under_first i) = none_stays h.0 i
  none_meet (Meets.across (inr h)) (under_first i) = none_stays h.1 i
  none_meet (Meets.called m) at_call = none_meet m again
  none_meet (Meets.looped _) i = elim i [ ]
  none_meet (Meets.around _) i = elim i [ ]
  none_meet (Meets.spawned _) i = elim i [ ]
  none_meet (Meets.waited _) i = elim i [ ]

  -- It has no labels and no pairs.
  silent : {s : Stmt} → Begins g s → Inside (derived_at p (Done p) s) nothing
  silent i = record { M = λ a b m. none_meet m i; O = λ l h. none_stays h i; L = λ l h. none_runs h i }

-- What the rules derive for main's body is in every solution.
in_solutions : {p : Program} {B : ℕ → Summary} {a b : ℕ} → Meets p Free (body p 0) a b → Solution p B → (B 0).M a b
in_solutions {p} {B} {a} {b} m h = (h.no_less 0).M a b ((derived_inside p Free B h.no_less (body p 0)).M a b m)

-- main is loop { async { k }; g() }, and g is g(): figure 1's second program, which has 1 for k.
abbrev pub endless : ℕ → Program
endless k = loop (seq (async (step k)) (call 1)) ∷ call 1 ∷ []

module _ (k : ℕ) where
  -- The least solution has the pair, by the crossing of rule (11).
  pub endless_marked : Meets (endless k) Free (body (endless k) 0) k k
  endless_marked = Meets.around (inl (Stays.first tt (Stays.spawned Runs.now), Runs.first (Runs.spawned Runs.now)))

  -- So it is in every solution.
  pub endless_in_solutions : {B : ℕ → Summary} → Solution (endless k) B → (B 0).M k k
  endless_in_solutions h = in_solutions endless_marked h

  g_silent : Inside (derived_at (endless k) (Done (endless k)) (call 1)) nothing
  g_silent = silent (endless k) 1 at_call at_call

  turn_stuck : {l : ℕ} → ¬ Stays (endless k) (Done (endless k)) (seq (async (step k)) (call 1)) l
  turn_stuck (Stays.first d h) = stuck (endless k) 1 at_call d at_call
  turn_stuck {l} (Stays.second d h) = g_silent.O l h

  module _ {a b : ℕ} where
    turn_apart : ¬ Meets (endless k) (Done (endless k)) (seq (async (step k)) (call 1)) a b
    turn_apart (Meets.first (Meets.spawned m)) = elim m [ ]
    turn_apart (Meets.second d m) = g_silent.M a b m
    turn_apart (Meets.across (inl h)) = g_silent.L b h.1
    turn_apart (Meets.across (inr h)) = g_silent.L a h.0

    loop_apart : ¬ Meets (endless k) (Done (endless k)) (body (endless k) 0) a b
    loop_apart (Meets.looped m) = turn_apart m
    loop_apart (Meets.around (inl h)) = turn_stuck h.0
    loop_apart (Meets.around (inr h)) = turn_stuck h.1

    -- No run enables any pair: the loop never takes a second turn, since g never ends.
    pub endless_never : ¬ MayMeet (endless k) (body (endless k) 0) a b
    endless_never m = loop_apart (may_meet_meets (endless k) m)

-- Recipe 10: main is (call main;0);async{call main}.
abbrev pub recipe_10 : Program
recipe_10 = seq (seq (call 0) (step 0)) (async (call 0)) ∷ []

main_runs : Runs recipe_10 Free (call 0) 0
main_runs = Runs.called (Runs.first (Runs.second tt Runs.now))

-- Every solution has (0, 0), by the crossing of rule (10) with what the call leaves running.
pub recipe_10_marked : {B : ℕ → Summary} → Solution recipe_10 B → (B 0).M 0 0
recipe_10_marked h =
    in_solutions (Meets.across (inl (Stays.first tt (Stays.called (Stays.second tt (Stays.spawned main_runs))), Runs.spawned main_runs))) h

-- No run enables any pair: main never comes past its first call.
pub recipe_10_never : {a b : ℕ} → ¬ MayMeet recipe_10 (body recipe_10 0) a b
recipe_10_never {a} {b} m =
    let first : Begins 0 (body recipe_10 0) = under_first (under_first at_call) in
    (silent recipe_10 0 first first).M a b (may_meet_meets recipe_10 m)

-- Recipe 11: main is loop{async{0};call p1}, and p1 is call p1.
abbrev pub recipe_11 : Program
recipe_11 = loop (seq (async (step 0)) (call 1)) ∷ call 1 ∷ []

-- Every solution has (0, 0).
pub recipe_11_marked : {B : ℕ → Summary} → Solution recipe_11 B → (B 0).M 0 0
recipe_11_marked h = endless_in_solutions 0 h

-- No run enables any pair.
pub recipe_11_never : {a b : ℕ} → ¬ MayMeet recipe_11 (body recipe_11 0) a b
recipe_11_never m = endless_never 0 m

-- A summary for main, and none for the others.
abbrev pub only : Summary → ℕ → Summary
only x zero = x
only x (suc f) = nothing

-- main is main().
abbrev pub itself : Program
itself = call 0 ∷ []

-- Rule (17) says nothing of the summary of a procedure that only calls itself.
pub itself_any : (x : Summary) → Solution itself (only x)
itself_any x = record { no_more = same; no_less = back }
  where
    same : (f : ℕ) → Inside (only x f) (summary_of (only x) (body itself f))
    same zero = inside_refl x
    same (suc f) = inside_refl nothing

    back : (f : ℕ) → Inside (summary_of (only x) (body itself f)) (only x f)
    back zero = inside_refl x
    back (suc f) = inside_refl nothing
