-- What is known of an admitted table: the judge passed every rule, so no place breaks any.
-- Assumes nothing.
use Prim.Native.Nat.{ℕ, ◌≤◌, ◌<◌}
use mathlib.Core.Path.{◌≡◌, refl, sym, ap, ◌∙◌, subst}
use mathlib.Core.Logic.{⊎_elim}
use mathlib.Core.Bool.{Bool, true, false, ◌&&◌, false≢true}
use native.Mathlib.Omega.{arith}
use borrow.Author.Tests.{ltb-true, ltb-false, leb-false, eqb-false, not-false}
use lib.Dec.{ltb, eqb}
use lib.ListN.{length}
use Rattle.std.specs.Prelude.{Ok}
use Rattle.numbers.specs.Sizes.{Size, label_ceiling}
use Rattle.recipe.specs.declared.Kind as coded
use Rattle.recipe.specs.Tables.{Table, Kind, kind_of, meant, rows, procs, kind_at, x_at, y_at, root_at}
use Rattle.recipe.specs.Inner.{RightSizes}
use Rattle.recipe.specs.Offences.{KeepsRules}
use Rattle.recipe.specs.Rules.{rules_of, operands_right, operand_wrong, uses, IsAdmitted}
use Rattle.recipe.specs.Statements.{Child}
use Rattle.recipe.proofs.Operands.{OneChild, and_first, and_second, child_before}
use Rattle.recipe.proofs.Judging.{sized}
use Rattle.recipe.proofs.Offences.{admitted_kept}

module _ (z : Size) (t : Table) (ok : IsAdmitted z t) where
  kept : KeepsRules (rules_of z t)
  kept = admitted_kept z t ok

  -- The lengths match and lie within the ceilings.
  pub sizes_right_lem : RightSizes z (rows t) (length t.xs) (length t.ys) (procs t)
  sizes_right_lem = sized z (rows t) (length t.xs) (length t.ys) (procs t) (not-false _ (kept.0 0 (omega arith)))

  -- A root is a row.
  pub root_row : (f : ℕ) → f < procs t → root_at t f < rows t
  root_row f l = leb-false (rows t) (root_at t f) (kept.1.1.1.0 f l)

  module _ (i : ℕ) (l : i < rows t) where
    -- A kind is one of the seven.
    pub kind_known : kind_at t i ≤ 6
    kind_known = ltb-false 6 (kind_at t i) (kept.1.0 i l)

    pub operand_not_wrong : operand_wrong z t i ≡ false
    operand_not_wrong = kept.1.1.0 i l

    -- The operands are as the kind wants them.
    pub operands_right_lem : operands_right z (kind_of (kind_at t i)) (x_at t i) (y_at t i) i (procs t) ≡ true
    operands_right_lem = not-false _ operand_not_wrong

    right_of : (k : Kind) → kind_of (kind_at t i) ≡ k → operands_right z k (x_at t i) (y_at t i) i (procs t) ≡ true
    right_of k e = subst (λ (k : Kind). operands_right z k (x_at t i) (y_at t i) i (procs t) ≡ true) e operands_right_lem

    -- A number that is no kind is not admitted.
    pub kind_there : kind_of (kind_at t i) ≡ Kind.unknown → ⊥
    unfolding operands_right
    kind_there e = false≢true (right_of Kind.unknown e)

    -- A kind whose rule is that x lies below a bound and y is 0.
    first_below : (k : Kind) (bound : ℕ) → operands_right z k (x_at t i) (y_at t i) i (procs t) ≡ ltb (x_at t i) bound && eqb (y_at t i) 0
        → kind_of (kind_at t i) ≡ k → x_at t i < bound
    first_below k bound rule e =
        ltb-true (x_at t i) bound (and_first (ltb (x_at t i) bound) (eqb (y_at t i) 0) (sym rule ∙ right_of k e))

    -- The label of a step lies below the label_ceiling.
    pub step_label : kind_of (kind_at t i) ≡ Kind.step → x_at t i < label_ceiling z.words
    unfolding operands_right
    step_label = first_below Kind.step (label_ceiling z.words) refl

    -- The children of a seq have smaller numbers.
    pub seq_children : kind_of (kind_at t i) ≡ Kind.seq → (x_at t i < i) × (y_at t i < i)
    unfolding operands_right
    seq_children e = (
      ltb-true (x_at t i) i (and_first (ltb (x_at t i) i) (ltb (y_at t i) i) (right_of Kind.seq e)),
      ltb-true (y_at t i) i (and_second (ltb (x_at t i) i) (ltb (y_at t i) i) (right_of Kind.seq e)),
    )

    -- The child of a loop has a smaller number.
    pub loop_child : kind_of (kind_at t i) ≡ Kind.loop → x_at t i < i
    unfolding operands_right
    loop_child = first_below Kind.loop i refl

    -- The child of an async has a smaller number.
    pub async_child : kind_of (kind_at t i) ≡ Kind.async → x_at t i < i
    unfolding operands_right
    async_child = first_below Kind.async i refl

    -- The child of a finish has a smaller number.
    pub finish_child : kind_of (kind_at t i) ≡ Kind.finish → x_at t i < i
    unfolding operands_right
    finish_child = first_below Kind.finish i refl

    -- So has the child of any row with one child.
    pub only_child : {k : coded.Kind} → OneChild k → kind_of (kind_at t i) ≡ meant (Ok k) → x_at t i < i
    unfolding operands_right
    only_child {k} one e =
        let rule : coded.Kind → Bool = λ j. operands_right z (meant (Ok j)) (x_at t i) (y_at t i) i (procs t) in
        first_below (meant (Ok k)) i (⊎_elim (ap rule) (⊎_elim (ap rule) (ap rule)) one) e

    -- A call names a procedure that is there.
    pub call_target : kind_of (kind_at t i) ≡ Kind.call → x_at t i < procs t
    unfolding operands_right
    call_target = first_below Kind.call (procs t) refl

    -- A child, of whatever kind, has a smaller number.
    pub child_smaller : (k : ℕ) → Child t i k → k < i
    child_smaller k = child_before z t i k operand_not_wrong

    -- Each row is used exactly once.
    pub used_once : uses t i ≡ 1
    used_once =
        let most : uses t i ≤ 1 = ltb-false 1 (uses t i) (kept.1.1.1.1.0 i l) in
        let some : uses t i ≡ 0 → ⊥ = eqb-false (uses t i) 0 (kept.1.1.1.1.1.0 i l) in
        omega arith
