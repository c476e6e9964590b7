-- What statement a row of an admitted table stands for: children have smaller numbers, so any depth above a row's number reads the
-- same statement, and the depth drops out. Assumes nothing.
use Prim.Native.Nat.{ℕ, zero, suc, ◌+◌, ◌<◌}
use mathlib.Core.List.{List, [], ◌∷◌, map}
use mathlib.Core.Path.{◌≡◌, refl, ap, ap₂, ◌∙◌}
use native.Mathlib.Numerals.{add-one}
use native.Mathlib.Nat.{le_of_suc-le-suc}
use native.Mathlib.Omega.{arith}
use lib.ListN.{length, get_or, length-map}
use Rattle.numbers.specs.Sizes.{Size}
use Rattle.calculus.specs.Syntax.{Stmt, body}
use Rattle.recipe.specs.Tables.{Table, Kind, kind_of, rows, procs, kind_at, x_at, y_at, root_at}
use Rattle.recipe.specs.Rules.{uses_by, IsAdmitted}
use Rattle.recipe.specs.Statements.{row_statement, statement_to, statement_at, program_of}
use Rattle.recipe.proofs.Operands.{counted_once}
use Rattle.recipe.proofs.Admitted.{child_smaller}

-- A row's statement depends on those of its children alone.
by_children : (k : Kind) (x y : ℕ) (f g : ℕ → Stmt) → ((i : ℕ) → 0 < uses_by k x y i → f i ≡ g i) → row_statement k x y f ≡ row_statement k x y g
unfolding row_statement uses_by
by_children Kind.skip x y f g same = refl
by_children Kind.step x y f g same = refl
by_children Kind.seq x y f g same = ap₂ Stmt.seq (same x (omega (arith, counted_once x))) (same y (omega (arith, counted_once y)))
by_children Kind.loop x y f g same = ap Stmt.loop (same x (omega (arith, counted_once x)))
by_children Kind.async x y f g same = ap Stmt.async (same x (omega (arith, counted_once x)))
by_children Kind.finish x y f g same = ap Stmt.finish (same x (omega (arith, counted_once x)))
by_children Kind.call x y f g same = refl
by_children Kind.unknown x y f g same = refl

module _ (z : Size) (t : Table) (ok : IsAdmitted z t) where
  -- Two depths above a row's number read the same statement.
  depth_free : (n m i : ℕ) → i < n → i < m → i < rows t → statement_to n t i ≡ statement_to m t i
  unfolding statement_to
  depth_free zero m i a b l = absurd (omega arith)
  depth_free (suc n) zero i a b l = absurd (omega arith)
  depth_free (suc n) (suc m) i a b l =
      by_children (kind_of (kind_at t i)) (x_at t i) (y_at t i) (statement_to n t) (statement_to m t)
      (λ k c. let s : k < i = child_smaller z t ok i l k c in depth_free n m k (omega arith) (omega arith) (omega arith))

  module _ (i : ℕ) (l : i < rows t) where
    -- The statement of a row, by its kind and the statements of its children.
    pub statement_by_row : statement_at t i ≡ row_statement (kind_of (kind_at t i)) (x_at t i) (y_at t i) (statement_at t)
    unfolding statement_at statement_to
    statement_by_row =
        ap (λ (n : ℕ). statement_to n t i) (add-one i)
        ∙ by_children (kind_of (kind_at t i)) (x_at t i) (y_at t i) (statement_to i t) (statement_at t)
        (λ k c. let s : k < i = child_smaller z t ok i l k c in depth_free i (k + 1) k s (omega arith) (omega arith))

    statement_of : (k : Kind) → kind_of (kind_at t i) ≡ k → statement_at t i ≡ row_statement k (x_at t i) (y_at t i) (statement_at t)
    statement_of k e = statement_by_row ∙ ap (λ (k : Kind). row_statement k (x_at t i) (y_at t i) (statement_at t)) e

    pub statement_skip : kind_of (kind_at t i) ≡ Kind.skip → statement_at t i ≡ Stmt.skip
    unfolding row_statement
    statement_skip = statement_of Kind.skip

    pub statement_step : kind_of (kind_at t i) ≡ Kind.step → statement_at t i ≡ Stmt.step (x_at t i)
    unfolding row_statement
    statement_step = statement_of Kind.step

    pub statement_seq : kind_of (kind_at t i) ≡ Kind.seq → statement_at t i ≡ Stmt.seq (statement_at t (x_at t i)) (statement_at t (y_at t i))
    unfolding row_statement
    statement_seq = statement_of Kind.seq

    pub statement_loop : kind_of (kind_at t i) ≡ Kind.loop → statement_at t i ≡ Stmt.loop (statement_at t (x_at t i))
    unfolding row_statement
    statement_loop = statement_of Kind.loop

    pub statement_async : kind_of (kind_at t i) ≡ Kind.async → statement_at t i ≡ Stmt.async (statement_at t (x_at t i))
    unfolding row_statement
    statement_async = statement_of Kind.async

    pub statement_finish : kind_of (kind_at t i) ≡ Kind.finish → statement_at t i ≡ Stmt.finish (statement_at t (x_at t i))
    unfolding row_statement
    statement_finish = statement_of Kind.finish

    pub statement_call : kind_of (kind_at t i) ≡ Kind.call → statement_at t i ≡ Stmt.call (x_at t i)
    unfolding row_statement
    statement_call = statement_of Kind.call

-- A program has as many bodies as the table has procedures.
pub program_length : (t : Table) → length (program_of t) ≡ procs t
program_length t = length-map t.roots (statement_at t)

mapped_at : (f : ℕ → Stmt) (l : List ℕ) (n : ℕ) (d : Stmt) → n < length l → get_or (map f l) n d ≡ f (get_or l n 0)
mapped_at f [] n d h = absurd (omega arith)
mapped_at f (x ∷ l) zero d h = refl
mapped_at f (x ∷ l) (suc n) d h = mapped_at f l n d (le_of_suc-le-suc h)

-- A procedure's body is the statement of its root.
pub body_of_root : (t : Table) (f : ℕ) → f < procs t → body (program_of t) f ≡ statement_at t (root_at t f)
body_of_root t f l = mapped_at (statement_at t) t.roots f Stmt.skip l
