-- Columns with the same entries are the same, since a bound on their number holds in one way only.
-- Assumes nothing.
use mathlib.Core.Path.{◌≡◌, ap, subst}
use Prim.Native.Nat.{ℕ, ◌≤◌}
use native.Mathlib.Bridge.{le_prop}
use Rattle.numbers.specs.Sizes.{row_ceiling}
use Rattle.table.specs.declared.columns.Columns.{Columns}

pub same_columns : (c c' : Columns) → c.rows ≡ c'.rows → c.kinds ≡ c'.kinds → c.xs ≡ c'.xs → c.ys ≡ c'.ys → c ≡ c'
same_columns c c' n k x y = rw (k, x, y) (subst (λ (m : ℕ). (q : m ≤ row_ceiling) → same c.rows c.fits m q) n (λ q. ap (λ (f : c.rows ≤ row_ceiling). bounded c.rows f) (le_prop c.fits q)) c'.fits)
  where
    bounded : (m : ℕ) → m ≤ row_ceiling → Columns
    bounded m f = record { rows = m; kinds = c'.kinds; xs = c'.xs; ys = c'.ys; fits = f }

    same : (m : ℕ) → m ≤ row_ceiling → (m' : ℕ) → m' ≤ row_ceiling → Type 0
    same m f m' f' = bounded m f ≡ bounded m' f'
