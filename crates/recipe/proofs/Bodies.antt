-- Each row of an admitted table lies in the body of exactly one procedure: its one use is as a root, or leads one row up.
-- Assumes nothing.
use Prim.Native.Nat.{ℕ, zero, suc, ◌+◌, ◌≤◌, ◌<◌}
use mathlib.Core.Path.{◌≡◌, refl, subst}
use mathlib.Core.Bool.{Bool, true, false}
use native.Mathlib.Omega.{arith}
use borrow.Author.Tests.{ltb-true, ltb-false}
use lib.Dec.{eqb, ltb}
use lib.ListN.{get_or-eq_default}
use Rattle.numbers.specs.Sizes.{Size}
use Rattle.numbers.specs.General.{one_if}
use Rattle.recipe.specs.Tables.{Table, Kind, kind_of, rows, procs, kind_at, x_at, y_at, root_at}
use Rattle.recipe.specs.Rules.{uses_by, child_uses, root_uses, IsAdmitted}
use Rattle.recipe.specs.Statements.{Child, Within, here, below}
use Rattle.numbers.proofs.SumLaws.{part_within, part_above, sole_part}
use Rattle.recipe.proofs.Operands.{counted_equal, counted_once}
use Rattle.recipe.proofs.Admitted.{child_smaller, used_once}

-- Only a row of the table has children.
pub parent_row : (t : Table) (j i : ℕ) → Child t j i → j < rows t
unfolding uses_by
parent_row t j i u = go (ltb j (rows t)) refl
  where
    go : (b : Bool) → ltb j (rows t) ≡ b → j < rows t
    go true e = ltb-true j (rows t) e
    go false e =
        let none : kind_at t j ≡ 0 = get_or-eq_default t.kinds 0 (ltb-false j (rows t) e) in
        let z : 0 < uses_by Kind.skip (x_at t j) (y_at t j) i =
        subst (λ (k : ℕ). 0 < uses_by (kind_of k) (x_at t j) (y_at t j) i) none u in
        absurd (omega arith)

-- The uses by the rows, one by one.
abbrev by_row : Table → ℕ → ℕ → ℕ
by_row t i j = uses_by (kind_of (kind_at t j)) (x_at t j) (y_at t j) i

-- The uses by the roots, one by one.
abbrev by_root : Table → ℕ → ℕ → ℕ
by_root t i f = one_if (eqb (root_at t f) i)

root_counted : (t : Table) (f i : ℕ) → root_at t f ≡ i → 0 < by_root t i f
root_counted t f i e = subst (λ (k : ℕ). 0 < by_root t k f) e (omega (arith, counted_once (root_at t f)))

module _ (z : Size) (t : Table) (ok : IsAdmitted z t) where
  -- A row lies in some body; d bounds how many rows lie above it.
  in_some_body : (d i : ℕ) → i < rows t → rows t ≤ i + d → (f : ℕ) × (f < procs t) × Within t (root_at t f) i
  in_some_body zero i l h = absurd (omega arith)
  in_some_body (suc d) i l h = go (ltb 0 (child_uses t (rows t) i)) refl (λ j. in_some_body d j)
    where
      go : (b : Bool) → ltb 0 (child_uses t (rows t) i) ≡ b
          → ((j : ℕ) → j < rows t → rows t ≤ j + d → (f : ℕ) × (f < procs t) × Within t (root_at t f) j)
          → (f : ℕ) × (f < procs t) × Within t (root_at t f) i
      go true e above =
          let p = part_above (rows t) (by_row t i) (ltb-true 0 (child_uses t (rows t) i) e) in
          let s : i < p.0 = child_smaller z t ok p.0 p.1 i p.2 in
          let r = above p.0 p.1 (omega arith) in
          (r.0, r.1, below r.2 p.2)
      go false e above =
          let some : 0 < root_uses t (procs t) i = omega (arith, used_once z t ok i l, ltb-false 0 (child_uses t (rows t) i) e) in
          let p = part_above (procs t) (by_root t i) some in
          (p.0, p.1, subst (λ (k : ℕ). Within t (root_at t p.0) k) (counted_equal (root_at t p.0) i p.2) here)

  -- A row lies in no two bodies.
  same_body : (f g : ℕ) → f < procs t → g < procs t → {r s i : ℕ} → Within t r i → Within t s i
      → root_at t f ≡ r → root_at t g ≡ s → i < rows t → f ≡ g
  same_body f g lf lg {i = i} here here a b l =
      sole_part (procs t) (by_root t i) (omega (arith, used_once z t ok i l)) f g lf lg (root_counted t f i a) (root_counted t g i b)
  same_body f g lf lg {i = i} here (below {j = k} w u) a b l =
      let one = part_within (procs t) (by_root t i) f lf in
      let two = part_within (rows t) (by_row t i) k (parent_row t k i u) in
      absurd (omega (arith, used_once z t ok i l, root_counted t f i a, u))
  same_body f g lf lg {i = i} (below {j = j} v c) here a b l =
      let one = part_within (procs t) (by_root t i) g lg in
      let two = part_within (rows t) (by_row t i) j (parent_row t j i c) in
      absurd (omega (arith, used_once z t ok i l, root_counted t g i b, c))
  same_body f g lf lg {s = s} {i = i} (below {j = j} v c) (below {j = k} w u) a b l =
      let same : k ≡ j =
      sole_part (rows t) (by_row t i) (omega (arith, used_once z t ok i l)) k j (parent_row t k i u) (parent_row t j i c) u c in
      same_body f g lf lg v (subst (λ (m : ℕ). Within t s m) same w) a b (parent_row t j i c)

  -- Exactly one procedure has the row in its body.
  pub in_one_body : (i : ℕ) → i < rows t
      → (f : ℕ) × (f < procs t) × Within t (root_at t f) i × ((g : ℕ) → g < procs t → Within t (root_at t g) i → g ≡ f)
  in_one_body i l =
      let p = in_some_body (rows t) i l (omega arith) in
      (p.0, p.1, p.2, λ g lg w. same_body g p.0 lg p.1 w p.2 refl refl l)
