-- The guarded derivations tell exactly what runs bring about: what they tell of a state they told of the state before the step, since each step's right side is
-- made of parts that its left side lets control come to.
-- Assumes nothing.
use Prim.Native.Nat.{ℕ}
use Rattle.calculus.specs.Syntax.{Stmt, skip, seq, loop, async, finish}
use Rattle.calculus.specs.Syntax.{Context, hole, in_first, in_second, in_async, in_finish, plug, Program}
use Rattle.calculus.specs.Steps.{Reduces, go_on, threads_stay, leave_loop, enter_loop, thread_ends, wait_ends, take_step, copy_body}
use Rattle.calculus.specs.Steps.{Moves, within, Steps, stay, move}
use Rattle.calculus.specs.Enabled.{MayMeet}
use Rattle.calculus.specs.Rules.{Inside, Summary}
use Rattle.calculus.proofs.Inside.{both, inside_refl, inside_trans}
use Rattle.calculus.proofs.Derivations.{Runs, Stays, Meets, derived_at}
use Rattle.calculus.proofs.Places.{enabled_twice, twice_meet}
use Rattle.calculus.proofs.Ending.{Ends, Done, Passed, nothing_left, threads_left, ends_done, parallel_done}

module _ (p : Program) where
  abbrev pub guarded_at : Stmt → Summary
  guarded_at s = derived_at p (Done p) s

  -- What is told of t is told of s.
  pub record Told (t s : Stmt) : Type 0 where
    pub ends : Ends p t → Ends p s
    pub done : Done p t → Done p s
    pub rest : Inside (guarded_at t) (guarded_at s)

  told_refl : (s : Stmt) → Told s s
  told_refl s = record { ends = λ h. h; done = λ h. h; rest = inside_refl (guarded_at s) }

  told_trans : {s t u : Stmt} → Told u t → Told t s → Told u s
  told_trans x y =
      record { ends = λ h. y.ends (x.ends h); done = λ h. y.done (x.done h); rest = inside_trans x.rest y.rest }

  module _ {s s' t t' : Stmt} (x : Told s' s) (y : Told t' t) where
    seq_ends : Ends p (seq s' t') → Ends p (seq s t)
    seq_ends (Ends.followed h k) = Ends.followed (x.ends h) (y.ends k)

    seq_done : Done p (seq s' t') → Done p (seq s t)
    seq_done (Done.followed h k) = Done.followed (x.done h) (y.done k)

    seq_runs : {l : ℕ} → Runs p (Done p) (seq s' t') l → Runs p (Done p) (seq s t) l
    seq_runs {l} (Runs.first h) = Runs.first (x.rest.L l h)
    seq_runs {l} (Runs.second g h) = Runs.second (x.done g) (y.rest.L l h)

    seq_stays : {l : ℕ} → Stays p (Done p) (seq s' t') l → Stays p (Done p) (seq s t) l
    seq_stays {l} (Stays.first g h) = Stays.first (y.done g) (x.rest.O l h)
    seq_stays {l} (Stays.second g h) = Stays.second (x.done g) (y.rest.O l h)

    seq_meets : {a b : ℕ} → Meets p (Done p) (seq s' t') a b → Meets p (Done p) (seq s t) a b
    seq_meets {a} {b} (Meets.first h) = Meets.first (x.rest.M a b h)
    seq_meets {a} {b} (Meets.second g h) = Meets.second (x.done g) (y.rest.M a b h)
    seq_meets {a} {b} (Meets.across h) = Meets.across (both (x.rest.O a) (y.rest.L b) (y.rest.L a) (x.rest.O b) h)

    seq_told : Told (seq s' t') (seq s t)
    seq_told =
        record {
          ends = seq_ends;
          done = seq_done;
          rest = record { M = λ a b. seq_meets; O = λ l. seq_stays; L = λ l. seq_runs };
        }

  module _ {s s' : Stmt} (x : Told s' s) where
    async_told : Told (async s') (async s)
    async_told =
        record { ends = ends; done = λ h. Done.spawned; rest = record { M = λ a b. meets; O = λ l. stays; L = λ l. runs } }
      where
        ends : Ends p (async s') → Ends p (async s)
        ends (Ends.spawned h) = Ends.spawned (x.ends h)

        runs : {l : ℕ} → Runs p (Done p) (async s') l → Runs p (Done p) (async s) l
        runs {l} (Runs.spawned h) = Runs.spawned (x.rest.L l h)

        stays : {l : ℕ} → Stays p (Done p) (async s') l → Stays p (Done p) (async s) l
        stays {l} (Stays.spawned h) = Stays.spawned (x.rest.L l h)

        meets : {a b : ℕ} → Meets p (Done p) (async s') a b → Meets p (Done p) (async s) a b
        meets {a} {b} (Meets.spawned h) = Meets.spawned (x.rest.M a b h)

    finish_told : Told (finish s') (finish s)
    finish_told =
        record { ends = ends; done = done; rest = record { M = λ a b. meets; O = λ l. stays; L = λ l. runs } }
      where
        ends : Ends p (finish s') → Ends p (finish s)
        ends (Ends.waited h) = Ends.waited (x.ends h)

        done : Done p (finish s') → Done p (finish s)
        done (Done.waited h) = Done.waited (x.ends h)

        runs : {l : ℕ} → Runs p (Done p) (finish s') l → Runs p (Done p) (finish s) l
        runs {l} (Runs.waited h) = Runs.waited (x.rest.L l h)

        stays : {l : ℕ} → Stays p (Done p) (finish s') l → Stays p (Done p) (finish s) l
        stays = elim [ ]

        meets : {a b : ℕ} → Meets p (Done p) (finish s') a b → Meets p (Done p) (finish s) a b
        meets {a} {b} (Meets.waited h) = Meets.waited (x.rest.M a b h)

  -- Nothing is told of skip but that it ends.
  skip_told : (s : Stmt) → Ends p s → Told skip s
  skip_told s e =
      record {
        ends = λ h. e;
        done = λ h. ends_done e;
        rest = record { M = λ a b. elim [ ]; O = λ l. elim [ ]; L = λ l. elim [ ] };
      }

  module _ {s : Stmt} where
    turn_runs : {l : ℕ} → Runs p (Done p) (loop s) l → Runs p (Done p) s l
    turn_runs (Runs.looped h) = h

    turns_runs : {l : ℕ} → Runs p (Done p) (seq s (loop s)) l → Runs p (Done p) (loop s) l
    turns_runs (Runs.first h) = Runs.looped h
    turns_runs (Runs.second g h) = h

    turns_stays : {l : ℕ} → Stays p (Done p) (seq s (loop s)) l → Stays p (Done p) (loop s) l
    turns_stays (Stays.first g h) = Stays.looped h
    turns_stays (Stays.second g h) = h

    turns_meets : {a b : ℕ} → Meets p (Done p) (seq s (loop s)) a b → Meets p (Done p) (loop s) a b
    turns_meets (Meets.first h) = Meets.looped h
    turns_meets (Meets.second g h) = h
    turns_meets (Meets.across h) = Meets.around (both (λ x. x) turn_runs turn_runs (λ x. x) h)

  reduced_told : {r s : Stmt} → Reduces p r s → Told s r
  reduced_told go_on =
      record {
        ends = Ends.followed Ends.at_once;
        done = Done.followed Done.at_once;
        rest =
            record { M = λ a b. Meets.second Done.at_once; O = λ l. Stays.second Done.at_once; L = λ l. Runs.second Done.at_once };
      }
  reduced_told (threads_stay _) =
      record {
        ends = λ h. Ends.followed h Ends.at_once;
        done = λ h. Done.followed h Done.at_once;
        rest = record { M = λ a b. Meets.first; O = λ l. Stays.first Done.at_once; L = λ l. Runs.first };
      }
  reduced_told leave_loop = skip_told _ Ends.left
  reduced_told enter_loop =
      record {
        ends = λ h. Ends.left;
        done = λ h. Done.left;
        rest = record { M = λ a b. turns_meets; O = λ l. turns_stays; L = λ l. turns_runs };
      }
  reduced_told thread_ends = skip_told _ (Ends.spawned Ends.at_once)
  reduced_told wait_ends = skip_told _ (Ends.waited Ends.at_once)
  reduced_told take_step = skip_told _ Ends.acted
  reduced_told copy_body =
      record {
        ends = Ends.called;
        done = Done.called;
        rest = record { M = λ a b. Meets.called; O = λ l. Stays.called; L = λ l. Runs.called };
      }

  plugged_told : (c : Context) (r s : Stmt) → Told s r → Told (plug c s) (plug c r)
  plugged_told hole r s x = x
  plugged_told (in_first c t) r s x = seq_told (plugged_told c r s x) (told_refl t)
  plugged_told (in_second t c) r s x = seq_told (told_refl t) (plugged_told c r s x)
  plugged_told (in_async c) r s x = async_told (plugged_told c r s x)
  plugged_told (in_finish c) r s x = finish_told (plugged_told c r s x)

  moved_told : {s t : Stmt} → Moves p s t → Told t s
  moved_told (within {r = r} {s = s} c ok h) = plugged_told c r s (reduced_told h)

  -- The guarded derivations are closed backwards under steps.
  pub steps_told : {s t : Stmt} → Steps p s t → Told t s
  steps_told (stay {s = s}) = told_refl s
  steps_told (move m run) = told_trans (steps_told run) (moved_told m)

  -- A run to skip shows that the statement ends by its form.
  pub run_ends : {s : Stmt} → Steps p s skip → Ends p s
  run_ends run = (steps_told run).ends Ends.at_once

  passed_done : {s : Stmt} → Passed s → Done p s
  passed_done nothing_left = Done.at_once
  passed_done (threads_left h) = parallel_done h

  -- A run to skip or to a parallel statement shows that control passes the statement by its form.
  pub run_done : {s t : Stmt} → Steps p s t → Passed t → Done p s
  run_done run h = (steps_told run).done (passed_done h)

  -- Whatever may meet in a run meets by a guarded derivation.
  pub may_meet_meets : {s : Stmt} {a b : ℕ} → MayMeet p s a b → Meets p (Done p) s a b
  may_meet_meets {s} {a} {b} m =
      (steps_told m.run).rest.M a b
      (twice_meet p (Done p) (λ u. parallel_done) (enabled_twice m.enabled))
