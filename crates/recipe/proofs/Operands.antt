-- What the operand rule says of each kind: the tests that it joins hold one by one.
-- Assumes nothing.
use Prim.Native.Nat.{ℕ, zero, suc, ◌<◌}
use mathlib.Core.Path.{◌≡◌, refl, ap, subst}
use mathlib.Core.Logic.{◌⊎◌, ⊎_elim}
use mathlib.Core.Bool.{Bool, true, false, ◌&&◌, false≢true}
use native.Mathlib.Omega.{arith}
use borrow.Author.Tests.{ltb-true, eqb-true, eq-eqb, not-false}
use lib.Dec.{eqb, ltb}
use Rattle.std.specs.Prelude.{Ok}
use Rattle.numbers.specs.Sizes.{Size}
use Rattle.numbers.specs.General.{one_if}
use Rattle.recipe.specs.declared.Kind as coded
use Rattle.recipe.specs.declared.Kind.TheVariants as coded_as
use Rattle.recipe.specs.Tables.{Table, Kind, kind_of, meant, procs, kind_at, x_at, y_at}
use Rattle.recipe.specs.Rules.{operands_right, operand_wrong, uses_by}
use Rattle.recipe.specs.Statements.{Child}

pub and_first : (a b : Bool) → a && b ≡ true → a ≡ true
and_first true b h = refl
and_first false b h = h

pub and_second : (a b : Bool) → a && b ≡ true → b ≡ true
and_second true b h = h
and_second false b h = absurd (false≢true h)

-- A number that is none of those from 0 to 6 is no kind.
pub unlisted_unknown : (n : ℕ) → (n ≡ 0 → ⊥) → (n ≡ 1 → ⊥) → (n ≡ 2 → ⊥) → (n ≡ 3 → ⊥) → (n ≡ 4 → ⊥) → (n ≡ 5 → ⊥) → (n ≡ 6 → ⊥)
    → kind_of n ≡ Kind.unknown
unlisted_unknown zero a b c d e f g = absurd (a refl)
unlisted_unknown (suc zero) a b c d e f g = absurd (b refl)
unlisted_unknown (suc (suc zero)) a b c d e f g = absurd (c refl)
unlisted_unknown (suc (suc (suc zero))) a b c d e f g = absurd (d refl)
unlisted_unknown (suc (suc (suc (suc zero)))) a b c d e f g = absurd (e refl)
unlisted_unknown (suc (suc (suc (suc (suc zero))))) a b c d e f g = absurd (f refl)
unlisted_unknown (suc (suc (suc (suc (suc (suc zero)))))) a b c d e f g = absurd (g refl)
unlisted_unknown (suc (suc (suc (suc (suc (suc (suc n))))))) a b c d e f g = refl

-- A number is counted as another only if they are equal.
pub counted_equal : (a b : ℕ) → 0 < one_if (eqb a b) → a ≡ b
counted_equal a b = go (eqb a b) refl
  where
    go : (t : Bool) → eqb a b ≡ t → 0 < one_if t → a ≡ b
    go true e h = eqb-true a b e
    go false e h = absurd (omega arith)

-- A number is counted once as itself.
pub counted_once : (a : ℕ) → one_if (eqb a a) ≡ 1
counted_once a = ap one_if (eq-eqb a a refl)

-- The kinds of rows with one child.
abbrev pub OneChild : coded.Kind → Type 0
OneChild k = (k ≡ coded_as.Loop) ⊎ ((k ≡ coded_as.Async) ⊎ (k ≡ coded_as.Finish))

-- One that is neither of the first two is the last.
pub last_one : {k : coded.Kind} → OneChild k → (k ≡ coded_as.Loop → ⊥) → (k ≡ coded_as.Async → ⊥) → k ≡ coded_as.Finish
last_one one first second = ⊎_elim (λ e. absurd (first e)) (⊎_elim (λ e. absurd (second e)) (λ e. e)) one

-- The kinds of rows with none.
abbrev pub NoChild : coded.Kind → Type 0
NoChild k = (k ≡ coded_as.Skip) ⊎ ((k ≡ coded_as.Step) ⊎ (k ≡ coded_as.Call))

-- The one child is the first operand.
pub one_child_uses : {k : coded.Kind} (x y i : ℕ) → OneChild k → uses_by (meant (Ok k)) x y i ≡ one_if (eqb x i)
unfolding uses_by
one_child_uses {k} x y i one =
    let used : coded.Kind → ℕ = λ j. uses_by (meant (Ok j)) x y i in
    ⊎_elim (λ e. ap used e) (⊎_elim (λ e. ap used e) (λ e. ap used e)) one

-- Where there is none, no row is used.
pub no_child_uses : {k : coded.Kind} (x y i : ℕ) → NoChild k → uses_by (meant (Ok k)) x y i ≡ 0
unfolding uses_by
no_child_uses {k} x y i none =
    let used : coded.Kind → ℕ = λ j. uses_by (meant (Ok j)) x y i in
    ⊎_elim (λ e. ap used e) (⊎_elim (λ e. ap used e) (λ e. ap used e)) none

-- A child has a smaller number than its row.
pub child_below : (z : Size) (k : Kind) (x y row procs i : ℕ) → operands_right z k x y row procs ≡ true → 0 < uses_by k x y i → i < row
unfolding operands_right uses_by
child_below z Kind.skip x y row procs i h u = omega arith
child_below z Kind.step x y row procs i h u = omega arith
child_below z Kind.seq x y row procs i h u = go (eqb x i) refl
  where
    go : (t : Bool) → eqb x i ≡ t → i < row
    go true e = subst (λ (z : ℕ). z < row) (eqb-true x i e) (ltb-true x row (and_first (ltb x row) (ltb y row) h))
    go false e =
        subst (λ (z : ℕ). z < row)
        (counted_equal y i (omega (arith, ap one_if e)))
        (ltb-true y row (and_second (ltb x row) (ltb y row) h))
child_below z Kind.loop x y row procs i h u = subst (λ (z : ℕ). z < row) (counted_equal x i u) (ltb-true x row (and_first _ _ h))
child_below z Kind.async x y row procs i h u = subst (λ (z : ℕ). z < row) (counted_equal x i u) (ltb-true x row (and_first _ _ h))
child_below z Kind.finish x y row procs i h u = subst (λ (z : ℕ). z < row) (counted_equal x i u) (ltb-true x row (and_first _ _ h))
child_below z Kind.call x y row procs i h u = omega arith
child_below z Kind.unknown x y row procs i h u = omega arith

-- The same of a table's row whose operands are right.
pub child_before : (z : Size) (t : Table) (j i : ℕ) → operand_wrong z t j ≡ false → Child t j i → i < j
child_before z t j i h u = child_below z (kind_of (kind_at t j)) (x_at t j) (y_at t j) j (procs t) i (not-false _ h) u
