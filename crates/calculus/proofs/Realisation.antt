-- What a guarded derivation tells, a run brings about: the run goes along the derivation, and where the guard says that control can pass a statement it passes.
-- Assumes nothing.
use mathlib.Core.Path.{◌≡◌}
use mathlib.Core.Logic.{inl, inr, Ne-symm}
use Prim.Native.Nat.{ℕ}
use Rattle.calculus.specs.Syntax.{Stmt, seq, loop, async, finish, Parallel, threads, thread}
use Rattle.calculus.specs.Syntax.{Context, in_first, in_second, in_async, in_finish, Program}
use Rattle.calculus.specs.Steps.{threads_stay, enter_loop, copy_body}
use Rattle.calculus.specs.Enabled.{MayMeet}
use Rattle.calculus.specs.Rules.{Symcross}
use Rattle.calculus.proofs.Cases.{apart}
use Rattle.calculus.proofs.Inside.{both}
use Rattle.calculus.proofs.Derivations.{Runs, Stays, Meets}
use Rattle.calculus.proofs.Places.{At, here, first, second, spawned, waited, Twice, at_both, twice_enabled}
use Rattle.calculus.proofs.Ending.{Done, Can, Passed, nothing_left, threads_left, under_first, under_second, under_async, under_finish}
use Rattle.calculus.proofs.Ending.{can_now, can_reduce, can_under, can_map, can_after, done_can}

-- The label is enabled.
pub data Enabled (l : ℕ) (s : Stmt) : Type 0 where
  enabled : {c : Context} → At s l c → Enabled l s

-- The label is enabled in threads that control has passed.
pub data Kept (l : ℕ) (s : Stmt) : Type 0 where
  kept : {c : Context} → Parallel s → At s l c → Kept l s

kept_parallel : {l : ℕ} {s : Stmt} → Kept l s → Parallel s
kept_parallel (kept h a) = h

module _ (l : ℕ) where
  enabled_first : {s : Stmt} (t : Stmt) → Enabled l s → Enabled l (seq s t)
  enabled_first t (enabled a) = enabled (first a)

  enabled_second : {s t : Stmt} → Parallel s → Enabled l t → Enabled l (seq s t)
  enabled_second h (enabled a) = enabled (second h a)

  enabled_async : {s : Stmt} → Enabled l s → Kept l (async s)
  enabled_async (enabled a) = kept thread (spawned a)

  enabled_finish : {s : Stmt} → Enabled l s → Enabled l (finish s)
  enabled_finish (enabled a) = enabled (waited a)

  kept_enabled : {s : Stmt} → Kept l s → Enabled l s
  kept_enabled (kept h a) = enabled a

  kept_second : {s t : Stmt} → Parallel s → Kept l t → Kept l (seq s t)
  kept_second h (kept k a) = kept (threads h k) (second h a)

module _ (a b : ℕ) where
  twice_under :
      {s t : Stmt} (K : Context → Context) →
      ((l : ℕ) (c : Context) → At s l c → At t l (K c)) →
      ((c d : Context) → K c ≡ K d → c ≡ d) →
      Twice a b s →
      Twice a b t
  twice_under K lift same (at_both {c = c} {d = d} n h k) = at_both (λ e. n (same c d e)) (lift a c h) (lift b d k)

  twice_first : {s : Stmt} (t : Stmt) → Twice a b s → Twice a b (seq s t)
  twice_first t = twice_under (λ c. in_first c t) (λ l c. first) (λ c d e. cc)

  twice_second : {s t : Stmt} → Parallel s → Twice a b t → Twice a b (seq s t)
  twice_second {s} q = twice_under (in_second s) (λ l c. second q) (λ c d e. cc)

  twice_async : {s : Stmt} → Twice a b s → Twice a b (async s)
  twice_async = twice_under in_async (λ l c. spawned) (λ c d e. cc)

  twice_finish : {s : Stmt} → Twice a b s → Twice a b (finish s)
  twice_finish = twice_under in_finish (λ l c. waited) (λ c d e. cc)

  twice_across : {s t : Stmt} → Kept a s → Enabled b t → Twice a b (seq s t)
  twice_across (kept q h) (enabled k) = at_both apart (first h) (second q k)

  twice_swap : {s : Stmt} → Twice a b s → Twice b a s
  twice_swap (at_both n h k) = at_both (Ne-symm n) k h

module _ {p : Program} where
  module _ {l : ℕ} where
    enable_first : {s : Stmt} (t : Stmt) → Can p s (Enabled l) → Can p (seq s t) (Enabled l)
    enable_first t c = can_under (under_first t) c (λ u q. can_now (enabled_first l t q))

    -- A label that runs by a guarded derivation is enabled in some run.
    pub runs_can : {s : Stmt} → Runs p (Done p) s l → Can p s (Enabled l)
    runs_can Runs.now = can_now (enabled here)
    runs_can (Runs.first {t = t} h) = enable_first t (runs_can h)
    runs_can (Runs.second g h) = can_after (done_can g) (runs_can h) (λ u v q e. can_now (enabled_second l q e))
    runs_can (Runs.looped {s = s} h) = can_reduce enter_loop (enable_first (loop s) (runs_can h))
    runs_can (Runs.spawned h) = can_under under_async (runs_can h) (λ u q. can_now (kept_enabled l (enabled_async l q)))
    runs_can (Runs.waited h) = can_under under_finish (runs_can h) (λ u q. can_now (enabled_finish l q))
    runs_can (Runs.called h) = can_reduce copy_body (runs_can h)

    kept_past : {s t : Stmt} → Kept l s → Passed t → Can p (seq s t) (Kept l)
    kept_past (kept h a) nothing_left = can_reduce (threads_stay h) (can_now (kept h a))
    kept_past (kept h a) (threads_left k) = can_now (kept (threads h k) (first a))

    keep_first : {s t : Stmt} → Done p t → Can p s (Kept l) → Can p (seq s t) (Kept l)
    keep_first {s} {t} g c =
        can_under (under_first t) c (λ u q. can_under (under_second (kept_parallel q)) (done_can g) (λ v r. kept_past q r))

    -- A label that stays by a guarded derivation is left over, enabled, in some run.
    pub stays_can : {s : Stmt} → Stays p (Done p) s l → Can p s (Kept l)
    stays_can (Stays.first g h) = keep_first g (stays_can h)
    stays_can (Stays.second g h) = can_after (done_can g) (stays_can h) (λ u v q e. can_now (kept_second l q e))
    stays_can (Stays.looped h) = can_reduce enter_loop (keep_first Done.left (stays_can h))
    stays_can (Stays.spawned h) = can_under under_async (runs_can h) (λ u q. can_now (enabled_async l q))
    stays_can (Stays.called h) = can_reduce copy_body (stays_can h)

  cross : {a b : ℕ} {s t : Stmt} → Can p s (Kept a) → Can p t (Enabled b) → Can p (seq s t) (Twice a b)
  cross {a} {b} {s} {t} c d =
      can_under (under_first t) c (λ u q. can_under (under_second (kept_parallel q)) d (λ v r. can_now (twice_across a b q r)))

  crossed_can :
      {a b : ℕ} {s t : Stmt} → Symcross (Stays p (Done p) s) (Runs p (Done p) t) a b → Can p (seq s t) (Twice a b)
  crossed_can (inl h) = cross (stays_can h.0) (runs_can h.1)
  crossed_can {a} {b} (inr h) = can_map (cross (stays_can h.1) (runs_can h.0)) (λ u. twice_swap b a)

  module _ {a b : ℕ} where
    meet_first : {s : Stmt} (t : Stmt) → Can p s (Twice a b) → Can p (seq s t) (Twice a b)
    meet_first t c = can_under (under_first t) c (λ u q. can_now (twice_first a b t q))

    -- A pair that meets by a guarded derivation is enabled at two places in some run.
    pub meets_can : {s : Stmt} → Meets p (Done p) s a b → Can p s (Twice a b)
    meets_can (Meets.first {t = t} h) = meet_first t (meets_can h)
    meets_can (Meets.second g h) = can_after (done_can g) (meets_can h) (λ u v q e. can_now (twice_second a b q e))
    meets_can (Meets.across h) = crossed_can h
    meets_can (Meets.looped {s = s} h) = can_reduce enter_loop (meet_first (loop s) (meets_can h))
    meets_can (Meets.around h) = can_reduce enter_loop (crossed_can (both (λ x. x) Runs.looped Runs.looped (λ x. x) h))
    meets_can (Meets.spawned h) = can_under under_async (meets_can h) (λ u q. can_now (twice_async a b q))
    meets_can (Meets.waited h) = can_under under_finish (meets_can h) (λ u q. can_now (twice_finish a b q))
    meets_can (Meets.called h) = can_reduce copy_body (meets_can h)

    -- The same, in the words of section 3.
    pub meets_may_meet : {s : Stmt} → Meets p (Done p) s a b → MayMeet p s a b
    meets_may_meet h =
        let c = meets_can h in
        record { state = c.state; run = c.run; enabled = twice_enabled c.holds }
