-- A line of a sheet is as long as its fields and the bytes that end them.
-- Assumes nothing.
use mathlib.Core.Path.{◌≡◌}
use mathlib.Core.List.{[], ◌∷◌}
use Prim.Native.Nat.{ℕ, ◌+◌}
use native.Mathlib.Omega.{arith}
use lib.ListN.{length}
use Rattle.text.specs.Bytes.{ascii, newline}
use Rattle.text.specs.Numbers.{spelled}
use Rattle.text.proofs.LineLaws.{length_ended, length_first}
use Rattle.recipe.specs.declared.Row.{Row}
use Rattle.sheet.specs.Form.{keyword, spelled_row, spelled_root}

pub length_row_line :
    (row : Row) → length (spelled_row row) ≡ length (keyword row.kind) + length (spelled row.x) + length (spelled row.y) + 5
unfolding spelled_row
length_row_line row =
    omega (
      arith,
      length_first (ascii "R") (keyword row.kind) (spelled row.x ∷ spelled row.y ∷ []),
      length_first (keyword row.kind) (spelled row.x) (spelled row.y ∷ []),
      length_first (spelled row.x) (spelled row.y) [],
      length_ended (spelled row.y) newline,
    )

pub length_root_line : (root : ℕ) → length (spelled_root root) ≡ length (spelled root) + 3
unfolding spelled_root
length_root_line root = omega (arith, length_first (ascii "P") (spelled root) [], length_ended (spelled root) newline)
