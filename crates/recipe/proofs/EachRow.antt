-- A law for every row of an admitted table, row by row, children before parents; by it a row calls no procedure out of range.
-- Assumes nothing.
use mathlib.Core.Path.{◌≡◌, refl, sym, subst}
use mathlib.Core.Logic.{⊎_elim}
use Prim.Native.Nat.{ℕ, zero, suc, ◌<◌}
use native.Mathlib.Omega.{arith}
use Rattle.numbers.specs.Sizes.{Size, label_ceiling}
use Rattle.calculus.specs.Syntax.{Stmt, skip, step, seq, loop, async, finish, call}
use Rattle.calculus.specs.Calls.{CallsIn}
use Rattle.recipe.specs.Tables.{Table, Kind, kind_of, kind_at, x_at, y_at, rows, procs}
use Rattle.recipe.specs.Rules.{IsAdmitted}
use Rattle.recipe.specs.Statements.{statement_at}
use Rattle.recipe.proofs.Admitted.{sizes_right_lem, kind_there, step_label, seq_children, loop_child, async_child, finish_child, call_target}
use Rattle.recipe.proofs.Readings.{statement_skip, statement_step, statement_seq, statement_loop, statement_async, statement_finish, statement_call}

-- What holds of each statement that is made of such statements holds of each row.
module _ (z : Size) (t : Table) (ok : IsAdmitted z t) (P : Stmt → Type 0)
    (nothing : P skip) (stepped : (l : ℕ) → l < label_ceiling z.words → P (step l))
    (joined : (s s' : Stmt) → P s → P s' → P (seq s s'))
    (looped : (s : Stmt) → P s → P (loop s)) (spawned : (s : Stmt) → P s → P (async s)) (waited : (s : Stmt) → P s → P (finish s))
    (calls : (f : ℕ) → f < procs t → P (call f)) where
  by_kind : (i : ℕ) (l : i < rows t) (k : Kind) → kind_of (kind_at t i) ≡ k → ((j : ℕ) → j < i → P (statement_at t j)) → P (statement_at t i)
  by_kind i l Kind.skip e rec = subst P (sym (statement_skip z t ok i l e)) nothing
  by_kind i l Kind.step e rec = subst P (sym (statement_step z t ok i l e)) (stepped (x_at t i) (step_label z t ok i l e))
  by_kind i l Kind.seq e rec =
      let smaller = seq_children z t ok i l e in
      subst P (sym (statement_seq z t ok i l e))
      (joined (statement_at t (x_at t i)) (statement_at t (y_at t i)) (rec (x_at t i) smaller.0) (rec (y_at t i) smaller.1))
  by_kind i l Kind.loop e rec =
      subst P (sym (statement_loop z t ok i l e)) (looped (statement_at t (x_at t i)) (rec (x_at t i) (loop_child z t ok i l e)))
  by_kind i l Kind.async e rec =
      subst P (sym (statement_async z t ok i l e)) (spawned (statement_at t (x_at t i)) (rec (x_at t i) (async_child z t ok i l e)))
  by_kind i l Kind.finish e rec =
      subst P (sym (statement_finish z t ok i l e)) (waited (statement_at t (x_at t i)) (rec (x_at t i) (finish_child z t ok i l e)))
  by_kind i l Kind.call e rec =
      subst P (sym (statement_call z t ok i l e)) (calls (x_at t i) (call_target z t ok i l e))
  by_kind i l Kind.unknown e rec = absurd (kind_there z t ok i l e)

  up_to : (n i : ℕ) → i < n → i < rows t → P (statement_at t i)
  up_to zero i h l = absurd (omega arith)
  up_to (suc n) i h l =
      by_kind i l (kind_of (kind_at t i)) refl (λ j s. up_to n j (omega arith) (omega arith))

  pub each_row : (i : ℕ) → i < rows t → P (statement_at t i)
  each_row i l = up_to (suc i) i (omega arith) l

module _ (z : Size) (t : Table) (ok : IsAdmitted z t) (i : ℕ) (l : i < rows t) where
  pub calls_in_range : (f : ℕ) → CallsIn (statement_at t i) f → f < procs t
  calls_in_range =
      each_row z t ok (λ s. (f : ℕ) → CallsIn s f → f < procs t) (λ f c. absurd c) (λ k h f c. absurd c)
      (λ s s' p q f. ⊎_elim (p f) (q f)) (λ s p. p) (λ s p. p) (λ s p. p) (λ g h f e. subst (λ (x : ℕ). x < procs t) e h) i l

  -- and none is above the ceiling
  pub calls_below : (f : ℕ) → CallsIn (statement_at t i) f → f < z.procs
  calls_below f c = omega (arith, calls_in_range f c, (sizes_right_lem z t ok).few_procs_lem)
