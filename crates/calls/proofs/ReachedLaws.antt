-- The computed closure is the relation: with every procedure of the program allowed between, what is closed through each of them follows any path of calls,
-- since a procedure on the way has a call in its body and so is one of the program. Assumes nothing.
use mathlib.Core.Path.{◌≡◌, refl, sym, ◌∙◌, subst}
use mathlib.Core.Bool.{Bool, true, false, not, ◌&&◌, ◌||◌, true≢false, false≢true, or-true, and-eq-true_iff}
use mathlib.Core.Logic.{◌⊎◌, inl, inr, ⊎_elim}
use Prim.Native.Nat.{ℕ, zero, suc, ◌<◌}
use native.Mathlib.Nat.{eq-or-lt_of_le, le_of_suc-le-suc, not-suc-le-zero}
use native.Mathlib.Decide.{dec_lt}
use native.Mathlib.Omega.{arith}
use lib.Dec.{eqb}
use lib.ListN.{length, get_or-eq_default}
use borrow.Author.Tests.{eqb-true, eq-eqb, not-true, not-false}
use Rattle.calculus.specs.Syntax.{Stmt, skip, step, seq, loop, async, finish, call, Program, body}
use Rattle.calculus.specs.Calls.{CallsIn, Calls, Reaches, one, more, SelfCalling, FromMain, NoSelfCall}
use Rattle.numbers.proofs.EveryLaws.{some_fails, every_passes}
use Rattle.calls.specs.Reached.{calling, reached, reaches_itself, from_main, wide}

either_true : (a b : Bool) → (a || b) ≡ true → (a ≡ true) ⊎ (b ≡ true)
either_true true b e = inl refl
either_true false b e = inr e

first_true : (a b : Bool) → a ≡ true → (a || b) ≡ true
first_true a b e = rw e

second_true : (a b : Bool) → b ≡ true → (a || b) ≡ true
second_true a b e = rw e (or-true a)

pub calling_calls : (s : Stmt) (g : ℕ) → calling s g ≡ true → CallsIn s g
unfolding calling
calling_calls skip g e = false≢true e
calling_calls (step l) g e = false≢true e
calling_calls (seq s t) g e =
    ⊎_elim (λ h. inl (calling_calls s g h)) (λ h. inr (calling_calls t g h)) (either_true (calling s g) (calling t g) e)
calling_calls (loop s) g e = calling_calls s g e
calling_calls (async s) g e = calling_calls s g e
calling_calls (finish s) g e = calling_calls s g e
calling_calls (call f) g e = eqb-true f g e

pub calls_calling : (s : Stmt) (g : ℕ) → CallsIn s g → calling s g ≡ true
unfolding calling
calls_calling skip g c = absurd c
calls_calling (step l) g c = absurd c
calls_calling (seq s t) g (inl c) = first_true (calling s g) (calling t g) (calls_calling s g c)
calls_calling (seq s t) g (inr c) = second_true (calling s g) (calling t g) (calls_calling t g c)
calls_calling (loop s) g c = calls_calling s g c
calls_calling (async s) g c = calls_calling s g c
calls_calling (finish s) g c = calls_calling s g c
calls_calling (call f) g c = eq-eqb f g c

module _ (p : Program) where
  pub reaches_joined : {f g h : ℕ} → Reaches p f g → Reaches p g h → Reaches p f h
  reaches_joined (one c) r = more c r
  reaches_joined (more c q) r = more c (reaches_joined q r)

  -- past the end the body is skip, which calls nothing
  pub caller_below : (f g : ℕ) → Calls p f g → f < length p
  caller_below f g c = within (dec_lt f (length p))
    where
      within : Dec (f < length p) → f < length p
      within (yes below) = below
      within (no past) = absurd (subst (λ (s : Stmt). CallsIn s g) (get_or-eq_default p skip {n = f} (omega arith)) c)

  pub start_below : {f g : ℕ} → Reaches p f g → f < length p
  start_below (one {f = f} {g = g} c) = caller_below f g c
  start_below (more {f = f} {g = g} c r) = caller_below f g c

  -- From f to g with only procedures below k between them.
  abbrev Through : ℕ → ℕ → ℕ → Type 0
  Through k f g = reached p k f g ≡ true

  through_either : (k f g : ℕ) → Through (suc k) f g → Through k f g ⊎ (Through k f k × Through k k g)
  unfolding reached
  through_either k f g e =
      ⊎_elim inl (λ h. inr ((and-eq-true_iff (reached p k f k) (reached p k k g)).0 h))
      (either_true (reached p k f g) (reached p k f k && reached p k k g) e)

  through_still : (k f g : ℕ) → Through k f g → Through (suc k) f g
  unfolding reached
  through_still k f g e = first_true (reached p k f g) (reached p k f k && reached p k k g) e

  through_newest : (k f g : ℕ) → Through k f k → Through k k g → Through (suc k) f g
  unfolding reached
  through_newest k f g to from =
      second_true (reached p k f g) (reached p k f k && reached p k k g)
      ((and-eq-true_iff (reached p k f k) (reached p k k g)).1 (to, from))

  -- what is reached through procedures below k can be passed through each of them
  through_closed : (k m f g : ℕ) → m < k → Through k f m → Through k m g → Through k f g
  through_closed zero m f g h to from = absurd (not-suc-le-zero h)
  through_closed (suc k) m f g h to from =
      ⊎_elim newest
      (λ l. older (λ a b. through_closed k m a b l) (through_either k f m to) (through_either k m g from))
      (eq-or-lt_of_le (le_of_suc-le-suc h))
    where
      newest : m ≡ k → Through (suc k) f g
      newest e =
          through_newest k f g
          (⊎_elim (λ t. t) (λ t. t.0) (through_either k f k (subst (λ (n : ℕ). Through (suc k) f n) e to)))
          (⊎_elim (λ t. t) (λ t. t.1) (through_either k k g (subst (λ (n : ℕ). Through (suc k) n g) e from)))

      older :
          ((a b : ℕ) → Through k a m → Through k m b → Through k a b)
          → Through k f m ⊎ (Through k f k × Through k k m) → Through k m g ⊎ (Through k m k × Through k k g)
          → Through (suc k) f g
      older closed (inl t) (inl u) = through_still k f g (closed f g t u)
      older closed (inl t) (inr u) = through_newest k f g (closed f k t u.0) u.1
      older closed (inr t) (inl u) = through_newest k f g t.0 (closed k g t.1 u)
      older closed (inr t) (inr u) = through_newest k f g t.0 u.1

  through_call : (k f g : ℕ) → Calls p f g → Through k f g
  unfolding reached
  through_call zero f g c = calls_calling (body p f) g c
  through_call (suc k) f g c = through_still k f g (through_call k f g c)

  pub reached_reaches : (k f g : ℕ) → reached p k f g ≡ true → Reaches p f g
  unfolding reached
  reached_reaches zero f g e = one (calling_calls (body p f) g e)
  reached_reaches (suc k) f g e =
      ⊎_elim (reached_reaches k f g) (λ t. reaches_joined (reached_reaches k f k t.0) (reached_reaches k k g t.1))
      (through_either k f g e)

  pub reaches_reached : (f g : ℕ) → Reaches p f g → reached p (length p) f g ≡ true
  reaches_reached f g r = follow r
    where
      follow : {f g : ℕ} → Reaches p f g → Through (length p) f g
      follow (one {f = f} {g = g} c) = through_call (length p) f g c
      follow (more {f = f} {g = g} {h = h} c r) =
          through_closed (length p) g f h (start_below r) (through_call (length p) f g c) (follow r)

  -- the computed test whether f is main or reached from it is the relation
  pub from_main_lem : (f : ℕ) → from_main p f ≡ true → FromMain p f
  from_main_lem f e =
      ⊎_elim (λ h. inl (eqb-true f 0 h)) (λ h. inr (reached_reaches (length p) 0 f h))
      (either_true (eqb f 0) (reached p (length p) 0 f) e)

  pub main_from : (f : ℕ) → FromMain p f → from_main p f ≡ true
  main_from f (inl e) = first_true (eqb f 0) (reached p (length p) 0 f) (eq-eqb f 0 e)
  main_from f (inr r) = second_true (eqb f 0) (reached p (length p) 0 f) (reaches_reached 0 f r)

  -- wide: some procedure that main can reach, main included, can reach itself
  pub wide_some : wide p ≡ true → (f : ℕ) × (FromMain p f × SelfCalling p f)
  wide_some e =
      let found = some_fails (λ f. not (from_main p f && reaches_itself p f)) (length p) (not-true _ e) in
      let f = found.0 in
      let both = (and-eq-true_iff (from_main p f) (reaches_itself p f)).0 (not-false _ found.1) in
      (f, (from_main_lem f both.0, reached_reaches (length p) f f both.1))

  -- exact: none
  pub exact_no_self_call : wide p ≡ false → NoSelfCall p
  exact_no_self_call e f main r =
      true≢false
      (sym ((and-eq-true_iff (from_main p f) (reaches_itself p f)).1 (main_from f main, reaches_reached f f r))
      ∙ not-true _ (every_passes (λ f. not (from_main p f && reaches_itself p f)) (length p) (not-false _ e) f (start_below r)))

  pub some_wide : (f : ℕ) → FromMain p f → SelfCalling p f → wide p ≡ true
  some_wide f main r = go (wide p) refl
    where
      go : (b : Bool) → wide p ≡ b → b ≡ true
      go true e = refl
      go false e = absurd (exact_no_self_call e f main r)

  pub no_self_call_exact : NoSelfCall p → wide p ≡ false
  no_self_call_exact none = go (wide p) refl
    where
      go : (b : Bool) → wide p ≡ b → b ≡ false
      go false e = refl
      go true e = let found = wide_some e in absurd (none found.0 found.1.0 found.1.1)
