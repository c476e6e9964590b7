-- Where no procedure that main can reach reaches itself, everything ends: each call leaves a procedure behind that is never called again,
-- and there are finitely many.
-- So no guard holds anything back, and every pair of the least solution meets in a run.
-- Assumes nothing.
use mathlib.Core.Path.{◌≡◌, refl, sym, ◌∙◌, ap, subst}
use mathlib.Core.Logic.{◌≢◌, inl, inr}
use mathlib.Core.List.{List, [], ◌∷◌, Memᴰ}
use Prim.Native.Nat.{ℕ, zero, suc, ◌<◌}
use native.Mathlib.Decide.{dec_lt, ℕ_discrete}
use native.Mathlib.Omega.{arith}
use lib.ListN.{length, get_or-eq_default}
use Rattle.calculus.specs.Syntax.{Stmt, skip, step, seq, loop, async, finish, call, Program, body}
use Rattle.calculus.specs.Rules.{Symcross}
use Rattle.calculus.specs.Calls.{CallsIn, Calls, Reaches, one, more, FromMain, NoSelfCall}
use Rattle.calculus.proofs.Inside.{both}
use Rattle.calculus.proofs.Derivations.{Runs, Stays, Meets, Free}
use Rattle.calculus.proofs.Ending.{Ends, Done, ends_done}

-- The list without the member at that place.
without : {x : ℕ} {xs : List ℕ} → Memᴰ x xs → List ℕ
without (Memᴰ.head {xs = xs} e) = xs
without (Memᴰ.tail {x = y} m) = y ∷ without m

without_shorter : {x : ℕ} {xs : List ℕ} (m : Memᴰ x xs) → length xs ≡ suc (length (without m))
unfolding without
without_shorter (Memᴰ.head e) = refl
without_shorter (Memᴰ.tail m) = ap suc (without_shorter m)

without_others : {x y : ℕ} {xs : List ℕ} (m : Memᴰ x xs) → Memᴰ y xs → y ≢ x → Memᴰ y (without m)
unfolding without
without_others (Memᴰ.head e) (Memᴰ.head d) n = absurd (n (d ∙ sym e))
without_others (Memᴰ.head e) (Memᴰ.tail k) n = k
without_others (Memᴰ.tail m) (Memᴰ.head d) n = Memᴰ.head d
without_others (Memᴰ.tail m) (Memᴰ.tail k) n = Memᴰ.tail (without_others m k n)

all_below : ℕ → List ℕ
all_below zero = []
all_below (suc n) = n ∷ all_below n

newest : (n x : ℕ) → (x < n → Memᴰ x (all_below n)) → x < suc n → Dec (x ≡ n) → Memᴰ x (n ∷ all_below n)
newest n x older h (yes e) = Memᴰ.head e
newest n x older h (no d) = Memᴰ.tail (older (omega arith))

below_member : (n x : ℕ) → x < n → Memᴰ x (all_below n)
unfolding all_below
below_member zero x h = absurd (omega arith)
below_member (suc n) x h = newest n x (below_member n x) h (ℕ_discrete x n)

module _ (p : Program) where
  pub reaches_on : {f g h : ℕ} → Reaches p f g → Calls p g h → Reaches p f h
  reaches_on (one c) d = more c (one d)
  reaches_on (more c r) d = more c (reaches_on r d)

  pub from_main_on : (f g : ℕ) → FromMain p f → Calls p f g → FromMain p g
  from_main_on f g (inl e) c = inr (one (subst (λ (n : ℕ). Calls p n g) e c))
  from_main_on f g (inr r) c = inr (reaches_on r c)

  -- A statement ends if the bodies of all that it calls do.
  pub calls_end : (s : Stmt) → ((g : ℕ) → CallsIn s g → Ends p (body p g)) → Ends p s
  calls_end skip h = Ends.at_once
  calls_end (step l) h = Ends.acted
  calls_end (seq s t) h = Ends.followed (calls_end s (λ g c. h g (inl c))) (calls_end t (λ g c. h g (inr c)))
  calls_end (loop s) h = Ends.left
  calls_end (async s) h = Ends.spawned (calls_end s h)
  calls_end (finish s) h = Ends.waited (calls_end s h)
  calls_end (call f) h = Ends.called (h f refl)

  module _ (acyclic : NoSelfCall p) where
    -- Main can reach f, and what f can reach is in the list.
    record Ahead (ahead : List ℕ) (f : ℕ) : Type 0 where
      main : FromMain p f
      all : (h : ℕ) → Reaches p f h → h < length p → Memᴰ h ahead

    -- A procedure that f calls has one fewer ahead of it, since it never comes back to itself.
    called_ends :
        {ahead : List ℕ} {f : ℕ} →
        Ahead ahead f →
        (g : ℕ) →
        Calls p f g →
        Dec (g < length p) →
        ((rest : List ℕ) → length ahead ≡ suc (length rest) → Ahead rest g → Ends p (body p g)) →
        Ends p (body p g)
    called_ends a g c (no past) next = rw (get_or-eq_default p skip {n = g} (omega arith)) Ends.at_once
    called_ends {ahead} {f} a g c (yes there) next =
        let m = a.all g (one c) there in
        let reached = from_main_on f g a.main c in
        next (without m) (without_shorter m)
        (record {
          main = reached;
          all =
              λ h r below.
              without_others m (a.all h (more c r) below) (λ e. acyclic g reached (subst (λ (n : ℕ). Reaches p g n) e r));
        })

    ends_within : (k : ℕ) (ahead : List ℕ) (f : ℕ) → length ahead < k → Ahead ahead f → Ends p (body p f)
    ends_within zero ahead f room a = absurd (omega arith)
    ends_within (suc k) ahead f room a =
        calls_end (body p f)
        (λ g c. called_ends a g c (dec_lt g (length p)) (λ rest shorter b. ends_within k rest g (omega arith) b))

    -- The body of every procedure that main can reach ends.
    pub main_ends : (f : ℕ) → FromMain p f → Ends p (body p f)
    main_ends f reached =
        let ahead = all_below (length p) in
        ends_within (suc (length ahead)) ahead f (omega arith)
        (record { main = reached; all = λ h r below. below_member (length p) h below })

  -- Whatever the statement calls, main can reach.
  abbrev pub OfMain : Stmt → Type 0
  OfMain s = (g : ℕ) → CallsIn s g → FromMain p g

  pub body_of_main : (f : ℕ) → FromMain p f → OfMain (body p f)
  body_of_main f main g c = from_main_on f g main c

  -- Where the guard holds of all statements of main, it holds nothing back.
  module _ (G : Stmt → Type 0) (free : (s : Stmt) → OfMain s → G s) where
    pub guard_runs : {s : Stmt} {l : ℕ} → Runs p Free s l → OfMain s → Runs p G s l
    guard_runs Runs.now w = Runs.now
    guard_runs (Runs.first h) w = Runs.first (guard_runs h (λ g c. w g (inl c)))
    guard_runs (Runs.second {s = s} _ h) w =
        Runs.second (free s (λ g c. w g (inl c))) (guard_runs h (λ g c. w g (inr c)))
    guard_runs (Runs.looped h) w = Runs.looped (guard_runs h w)
    guard_runs (Runs.spawned h) w = Runs.spawned (guard_runs h w)
    guard_runs (Runs.waited h) w = Runs.waited (guard_runs h w)
    guard_runs (Runs.called {f = f} h) w = Runs.called (guard_runs h (body_of_main f (w f refl)))

    pub guard_stays : {s : Stmt} {l : ℕ} → Stays p Free s l → OfMain s → Stays p G s l
    guard_stays (Stays.first {t = t} _ h) w =
        Stays.first (free t (λ g c. w g (inr c))) (guard_stays h (λ g c. w g (inl c)))
    guard_stays (Stays.second {s = s} _ h) w =
        Stays.second (free s (λ g c. w g (inl c))) (guard_stays h (λ g c. w g (inr c)))
    guard_stays (Stays.looped h) w = Stays.looped (guard_stays h w)
    guard_stays (Stays.spawned h) w = Stays.spawned (guard_runs h w)
    guard_stays (Stays.called {f = f} h) w = Stays.called (guard_stays h (body_of_main f (w f refl)))

    guard_crossed :
        {s t : Stmt} {a b : ℕ} →
        OfMain s →
        OfMain t →
        Symcross (Stays p Free s) (Runs p Free t) a b →
        Symcross (Stays p G s) (Runs p G t) a b
    guard_crossed v w = both (λ h. guard_stays h v) (λ h. guard_runs h w) (λ h. guard_runs h w) (λ h. guard_stays h v)

    pub guard_meets : {s : Stmt} {a b : ℕ} → Meets p Free s a b → OfMain s → Meets p G s a b
    guard_meets (Meets.first h) w = Meets.first (guard_meets h (λ g c. w g (inl c)))
    guard_meets (Meets.second {s = s} _ h) w =
        Meets.second (free s (λ g c. w g (inl c))) (guard_meets h (λ g c. w g (inr c)))
    guard_meets (Meets.across h) w = Meets.across (guard_crossed (λ g c. w g (inl c)) (λ g c. w g (inr c)) h)
    guard_meets (Meets.looped h) w = Meets.looped (guard_meets h w)
    guard_meets (Meets.around h) w = Meets.around (guard_crossed w w h)
    guard_meets (Meets.spawned h) w = Meets.spawned (guard_meets h w)
    guard_meets (Meets.waited h) w = Meets.waited (guard_meets h w)
    guard_meets (Meets.called {f = f} h) w = Meets.called (guard_meets h (body_of_main f (w f refl)))

  module _ (acyclic : NoSelfCall p) where
    -- Every statement of main ends.
    pub all_end : (s : Stmt) → OfMain s → Ends p s
    all_end s w = calls_end s (λ g c. main_ends acyclic g (w g c))

    -- Without self-calls every derived pair is a guarded one.
    pub meets_guarded : {s : Stmt} {a b : ℕ} → OfMain s → Meets p Free s a b → Meets p (Done p) s a b
    meets_guarded w h = guard_meets (Done p) (λ t v. ends_done (all_end t v)) h w
