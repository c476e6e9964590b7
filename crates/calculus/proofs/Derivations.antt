-- What the rules derive in finitely many uses, a call's going on in the body, is the least solution: it is closed under the rules, and
-- whatever is closed holds it.
-- A guard G says when control passes a statement; with none, the derivations are those of the paper's rules.
-- Assumes nothing.
use mathlib.Core.Path.{refl, subst}
use mathlib.Core.Logic.{◌⊎◌, inl, inr, ⊎_elim}
use Prim.Native.Nat.{ℕ}
use Rattle.calculus.specs.Syntax.{Stmt, skip, step, seq, loop, async, finish, call, Program, body}
use Rattle.calculus.specs.Rules.{Summary, Symcross, summary_of, Inside, Least}
use Rattle.calculus.proofs.Inside.{Closed, nothing_inside, inside_trans, both, crossed_inside, summary_monotone}

-- L: the label runs in the statement. What follows s₁ in s₁;s₂ runs if control passes s₁.
pub data Runs (p : Program) (G : Stmt → Type 0) : Stmt → ℕ → Type 0 where
  now : {l : ℕ} → Runs p G (step l) l
  first : {s t : Stmt} {l : ℕ} → Runs p G s l → Runs p G (seq s t) l
  second : {s t : Stmt} {l : ℕ} → G s → Runs p G t l → Runs p G (seq s t) l
  looped : {s : Stmt} {l : ℕ} → Runs p G s l → Runs p G (loop s) l
  spawned : {s : Stmt} {l : ℕ} → Runs p G s l → Runs p G (async s) l
  waited : {s : Stmt} {l : ℕ} → Runs p G s l → Runs p G (finish s) l
  called : {f l : ℕ} → Runs p G (body p f) l → Runs p G (call f) l

-- O: the label may still run once control has passed the statement.
pub data Stays (p : Program) (G : Stmt → Type 0) : Stmt → ℕ → Type 0 where
  first : {s t : Stmt} {l : ℕ} → G t → Stays p G s l → Stays p G (seq s t) l
  second : {s t : Stmt} {l : ℕ} → G s → Stays p G t l → Stays p G (seq s t) l
  looped : {s : Stmt} {l : ℕ} → Stays p G s l → Stays p G (loop s) l
  spawned : {s : Stmt} {l : ℕ} → Runs p G s l → Stays p G (async s) l
  called : {f l : ℕ} → Stays p G (body p f) l → Stays p G (call f) l

-- M: the two labels run together. What stays of s₁ meets what runs in s₂, and in a loop what stays of one turn meets what runs in the next.
pub data Meets (p : Program) (G : Stmt → Type 0) : Stmt → ℕ → ℕ → Type 0 where
  first : {s t : Stmt} {a b : ℕ} → Meets p G s a b → Meets p G (seq s t) a b
  second : {s t : Stmt} {a b : ℕ} → G s → Meets p G t a b → Meets p G (seq s t) a b
  across : {s t : Stmt} {a b : ℕ} → Symcross (Stays p G s) (Runs p G t) a b → Meets p G (seq s t) a b
  looped : {s : Stmt} {a b : ℕ} → Meets p G s a b → Meets p G (loop s) a b
  around : {s : Stmt} {a b : ℕ} → Symcross (Stays p G s) (Runs p G s) a b → Meets p G (loop s) a b
  spawned : {s : Stmt} {a b : ℕ} → Meets p G s a b → Meets p G (async s) a b
  waited : {s : Stmt} {a b : ℕ} → Meets p G s a b → Meets p G (finish s) a b
  called : {f a b : ℕ} → Meets p G (body p f) a b → Meets p G (call f) a b

-- The three families at a statement.
abbrev pub derived_at : Program → (Stmt → Type 0) → Stmt → Summary
derived_at p G s = record { M = Meets p G s; O = Stays p G s; L = Runs p G s }

-- No guard.
abbrev pub Free : Stmt → Type 0
Free s = Unit {0}

-- The least solution.
abbrev pub derived : Program → ℕ → Summary
derived p f = derived_at p Free (body p f)

swapped : {A B C D : Type 0} → (A × B) ⊎ (C × D) → (D × C) ⊎ (B × A)
swapped (inl h) = inr (h.1, h.0)
swapped (inr h) = inl (h.1, h.0)

module _ (p : Program) (G : Stmt → Type 0) where
  -- What stays is among what runs.
  pub stays_runs : {s : Stmt} {l : ℕ} → Stays p G s l → Runs p G s l
  stays_runs (Stays.first g h) = Runs.first (stays_runs h)
  stays_runs (Stays.second g h) = Runs.second g (stays_runs h)
  stays_runs (Stays.looped h) = Runs.looped (stays_runs h)
  stays_runs (Stays.spawned h) = Runs.spawned h
  stays_runs (Stays.called h) = Runs.called (stays_runs h)

  pub meets_symmetric : {s : Stmt} {a b : ℕ} → Meets p G s a b → Meets p G s b a
  meets_symmetric (Meets.first h) = Meets.first (meets_symmetric h)
  meets_symmetric (Meets.second g h) = Meets.second g (meets_symmetric h)
  meets_symmetric (Meets.across h) = Meets.across (swapped h)
  meets_symmetric (Meets.looped h) = Meets.looped (meets_symmetric h)
  meets_symmetric (Meets.around h) = Meets.around (swapped h)
  meets_symmetric (Meets.spawned h) = Meets.spawned (meets_symmetric h)
  meets_symmetric (Meets.waited h) = Meets.waited (meets_symmetric h)
  meets_symmetric (Meets.called h) = Meets.called (meets_symmetric h)

  module _ (B : ℕ → Summary) (closed : Closed p B) where
    runs_inside : {s : Stmt} {l : ℕ} → Runs p G s l → (summary_of B s).L l
    runs_inside Runs.now = refl
    runs_inside (Runs.first h) = inl (runs_inside h)
    runs_inside (Runs.second g h) = inr (runs_inside h)
    runs_inside (Runs.looped h) = runs_inside h
    runs_inside (Runs.spawned h) = runs_inside h
    runs_inside (Runs.waited h) = runs_inside h
    runs_inside (Runs.called {f = f} {l = l} h) = (closed f).L l (runs_inside h)

    stays_inside : {s : Stmt} {l : ℕ} → Stays p G s l → (summary_of B s).O l
    stays_inside (Stays.first g h) = inl (stays_inside h)
    stays_inside (Stays.second g h) = inr (stays_inside h)
    stays_inside (Stays.looped h) = stays_inside h
    stays_inside (Stays.spawned h) = runs_inside h
    stays_inside (Stays.called {f = f} {l = l} h) = (closed f).O l (stays_inside h)

    meets_inside : {s : Stmt} {a b : ℕ} → Meets p G s a b → (summary_of B s).M a b
    meets_inside (Meets.first h) = inl (meets_inside h)
    meets_inside (Meets.second g h) = inr (inl (meets_inside h))
    meets_inside (Meets.across h) = inr (inr (both stays_inside runs_inside runs_inside stays_inside h))
    meets_inside (Meets.looped h) = inl (meets_inside h)
    meets_inside (Meets.around h) = inr (both stays_inside runs_inside runs_inside stays_inside h)
    meets_inside (Meets.spawned h) = meets_inside h
    meets_inside (Meets.waited h) = meets_inside h
    meets_inside (Meets.called {f = f} {a = a} {b = b} h) = (closed f).M a b (meets_inside h)

    -- Whatever is closed under the rules holds every derivation, guarded or not.
    pub derived_inside : (s : Stmt) → Inside (derived_at p G s) (summary_of B s)
    derived_inside s = record { M = λ a b. meets_inside; O = λ l. stays_inside; L = λ l. runs_inside }

module _ (p : Program) where
  -- The rules, given the derivations of the procedures, lead to nothing but derivations.
  pub rules_derived : (s : Stmt) → Inside (summary_of (derived p) s) (derived_at p Free s)
  rules_derived skip = nothing_inside (derived_at p Free skip)
  rules_derived (step k) =
      record { M = λ a b h. absurd h; O = λ l h. absurd h; L = λ l h. subst (λ (n : ℕ). Runs p Free (step k) n) h Runs.now }
  rules_derived (seq s t) =
      let i = rules_derived s in
      let j = rules_derived t in
      record {
        M =
            λ a b.
            ⊎_elim (λ h. Meets.first (i.M a b h))
            (⊎_elim (λ h. Meets.second tt (j.M a b h)) (λ h. Meets.across (crossed_inside i.O j.L a b h)));
        O = λ l. ⊎_elim (λ h. Stays.first tt (i.O l h)) (λ h. Stays.second tt (j.O l h));
        L = λ l. ⊎_elim (λ h. Runs.first (i.L l h)) (λ h. Runs.second tt (j.L l h));
      }
  rules_derived (loop s) =
      let i = rules_derived s in
      record {
        M = λ a b. ⊎_elim (λ h. Meets.looped (i.M a b h)) (λ h. Meets.around (crossed_inside i.O i.L a b h));
        O = λ l h. Stays.looped (i.O l h);
        L = λ l h. Runs.looped (i.L l h);
      }
  rules_derived (async s) =
      let i = rules_derived s in
      record {
        M = λ a b h. Meets.spawned (i.M a b h);
        O = λ l h. Stays.spawned (i.L l h);
        L = λ l h. Runs.spawned (i.L l h);
      }
  rules_derived (finish s) =
      let i = rules_derived s in
      record { M = λ a b h. Meets.waited (i.M a b h); O = λ l h. absurd h; L = λ l h. Runs.waited (i.L l h) }
  rules_derived (call f) =
      record { M = λ a b. Meets.called; O = λ l. Stays.called; L = λ l. Runs.called }

  pub derived_closed : Closed p (derived p)
  derived_closed f = rules_derived (body p f)

  -- At every statement the derivations are what the rules give.
  pub derived_rules : (s : Stmt) → Inside (derived_at p Free s) (summary_of (derived p) s)
  derived_rules = derived_inside p Free (derived p) derived_closed

  -- The derivations of the procedures are the least solution.
  pub derived_least : Least p (derived p)
  derived_least =
      record {
        solution = record { no_more = λ f. derived_rules (body p f); no_less = derived_closed };
        inside = λ A h f. inside_trans (derived_inside p Free A h.no_less (body p f)) (h.no_less f);
      }

  -- Any least solution gives every statement its derivations, and nothing else.
  pub least_derived : {B : ℕ → Summary} → Least p B → (s : Stmt) → Inside (summary_of B s) (derived_at p Free s)
  least_derived {B} h s =
      inside_trans (summary_monotone (h.inside (derived p) derived_least.solution) s) (rules_derived s)

  module _ (B : ℕ → Summary) (least : Least p B) (s : Stmt) where
    back : Inside (derived_at p Free s) (summary_of B s)
    back = derived_inside p Free B least.solution.no_less s

    -- In the least solution what may still run is among what runs. (Of other solutions this fails where a procedure calls itself.)
    pub least_stays_run : (l : ℕ) → (summary_of B s).O l → (summary_of B s).L l
    least_stays_run l h = back.L l (stays_runs p Free ((least_derived least s).O l h))

    -- In the least solution the pairs are symmetric. (Of other solutions this fails where a procedure calls itself.)
    pub least_symmetric : (l₁ l₂ : ℕ) → (summary_of B s).M l₁ l₂ → (summary_of B s).M l₂ l₁
    least_symmetric l₁ l₂ h = back.M l₂ l₁ (meets_symmetric p Free ((least_derived least s).M l₁ l₂ h))
