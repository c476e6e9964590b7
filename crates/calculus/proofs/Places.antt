-- Labels enabled at two places are a derived pair: taking the two contexts apart together, they part at some s₁;s₂ with s₁ parallel, and
-- there rule (10) crosses.
-- Assumes nothing.
use mathlib.Core.Path.{◌≡◌, refl, subst⁻¹, ap}
use mathlib.Core.Logic.{◌≢◌, inl, inr}
use Prim.Native.Nat.{ℕ}
use Rattle.calculus.specs.Syntax.{Stmt, step, seq, async, finish, Parallel, threads, thread}
use Rattle.calculus.specs.Syntax.{Context, hole, in_first, in_second, in_async, in_finish, Allowed, plug, Program}
use Rattle.calculus.specs.Enabled.{BothEnabled, MayMeet}
use Rattle.calculus.specs.Rules.{Summary, summary_of, Solution}
use Rattle.calculus.proofs.Preservation.{steps_inside}
use Rattle.calculus.proofs.Derivations.{Runs, Stays, Meets, Free, derived_inside}

-- The context is allowed, and the statement is it with the step in its hole.
pub data At : Stmt → ℕ → Context → Type 0 where
  here : {l : ℕ} → At (step l) l hole
  first : {s t : Stmt} {l : ℕ} {c : Context} → At s l c → At (seq s t) l (in_first c t)
  second : {s t : Stmt} {l : ℕ} {c : Context} → Parallel s → At t l c → At (seq s t) l (in_second s c)
  spawned : {s : Stmt} {l : ℕ} {c : Context} → At s l c → At (async s) l (in_async c)
  waited : {s : Stmt} {l : ℕ} {c : Context} → At s l c → At (finish s) l (in_finish c)

at_plugged : (c : Context) (l : ℕ) → Allowed c → At (plug c (step l)) l c
at_plugged hole l ok = here
at_plugged (in_first c s) l ok = first (at_plugged c l ok)
at_plugged (in_second s c) l ok = second ok.0 (at_plugged c l ok.1)
at_plugged (in_async c) l ok = spawned (at_plugged c l ok)
at_plugged (in_finish c) l ok = waited (at_plugged c l ok)

pub enabled_at : {s : Stmt} (c : Context) (l : ℕ) → Allowed c → s ≡ plug c (step l) → At s l c
enabled_at c l ok e = subst⁻¹ (λ (t : Stmt). At t l c) e (at_plugged c l ok)

pub at_allowed : {s : Stmt} {l : ℕ} {c : Context} → At s l c → Allowed c
at_allowed here = tt
at_allowed (first a) = at_allowed a
at_allowed (second h a) = (h, at_allowed a)
at_allowed (spawned a) = at_allowed a
at_allowed (waited a) = at_allowed a

pub at_plug : {s : Stmt} {l : ℕ} {c : Context} → At s l c → s ≡ plug c (step l)
at_plug here = refl
at_plug (first {t = t} a) = ap (λ (s : Stmt). seq s t) (at_plug a)
at_plug (second {s = s} h a) = ap (seq s) (at_plug a)
at_plug (spawned a) = ap async (at_plug a)
at_plug (waited a) = ap finish (at_plug a)

-- Two labels at two different places.
pub data Twice (a b : ℕ) (s : Stmt) : Type 0 where
  at_both : {c d : Context} → c ≢ d → At s a c → At s b d → Twice a b s

pub enabled_twice : {s : Stmt} {a b : ℕ} → BothEnabled s a b → Twice a b s
enabled_twice {s} {a} {b} e =
    at_both e.different (enabled_at e.C₁ a e.allowed₁ e.at₁) (enabled_at e.C₂ b e.allowed₂ e.at₂)

pub twice_enabled : {s : Stmt} {a b : ℕ} → Twice a b s → BothEnabled s a b
twice_enabled (at_both {c = c} {d = d} n h k) =
    record {
      C₁ = c;
      C₂ = d;
      different = n;
      allowed₁ = at_allowed h;
      allowed₂ = at_allowed k;
      at₁ = at_plug h;
      at₂ = at_plug k;
    }

module _ (p : Program) (G : Stmt → Type 0) (passed : (s : Stmt) → Parallel s → G s) where
  at_runs : {s : Stmt} {l : ℕ} {c : Context} → At s l c → Runs p G s l
  at_runs here = Runs.now
  at_runs (first a) = Runs.first (at_runs a)
  at_runs (second h a) = Runs.second (passed _ h) (at_runs a)
  at_runs (spawned a) = Runs.spawned (at_runs a)
  at_runs (waited a) = Runs.waited (at_runs a)

  at_stays : {s : Stmt} {l : ℕ} {c : Context} → Parallel s → At s l c → Stays p G s l
  at_stays (threads h k) (first a) = Stays.first (passed _ k) (at_stays h a)
  at_stays (threads h k) (second _ a) = Stays.second (passed _ h) (at_stays k a)
  at_stays thread (spawned a) = Stays.spawned (at_runs a)

  at_meet : {s : Stmt} {a b : ℕ} {c d : Context} → At s a c → At s b d → c ≢ d → Meets p G s a b
  at_meet here here n = absurd (n refl)
  at_meet (first {t = t} h) (first k) n = Meets.first (at_meet h k (λ e. n (ap (λ (c : Context). in_first c t) e)))
  at_meet (first h) (second q k) n = Meets.across (inl (at_stays q h, at_runs k))
  at_meet (second q h) (first k) n = Meets.across (inr (at_runs h, at_stays q k))
  at_meet (second {s = s} q h) (second _ k) n = Meets.second (passed _ q) (at_meet h k (λ e. n (ap (in_second s) e)))
  at_meet (spawned h) (spawned k) n = Meets.spawned (at_meet h k (λ e. n (ap in_async e)))
  at_meet (waited h) (waited k) n = Meets.waited (at_meet h k (λ e. n (ap in_finish e)))

  -- Enabled at two places, hence derived, whatever the guard, so long as control passes a parallel statement.
  pub twice_meet : {s : Stmt} {a b : ℕ} → Twice a b s → Meets p G s a b
  twice_meet (at_both n h k) = at_meet h k n

-- Theorem 6: what may meet in a run from s is a pair of s in every solution.
pub may_meet_marked :
    {p : Program} {B : ℕ → Summary} {s : Stmt} {l₁ l₂ : ℕ} → Solution p B → MayMeet p s l₁ l₂ → (summary_of B s).M l₁ l₂
may_meet_marked {p} {B} {s} {l₁} {l₂} h m =
    let t = m.state in
    (steps_inside p B h.no_less m.run).M l₁ l₂
    ((derived_inside p Free B h.no_less t).M l₁ l₂ (twice_meet p Free (λ _ _. tt) (enabled_twice m.enabled)))
