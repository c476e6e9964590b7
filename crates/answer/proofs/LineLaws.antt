-- The line of a refusal is put field by field, and is as long as its fields, each with the byte that ends it.
-- Assumes nothing.
use mathlib.Core.Path.{◌≡◌}
use mathlib.Core.List.{List, [], ◌∷◌}
use Prim.Native.Nat.{ℕ, ◌+◌, ◌^◌, ◌≤◌, ◌<◌}
use native.Mathlib.Omega.{arith}
use lib.ListN.{length}
use Rattle.text.specs.Bytes.{ascii, tab, newline}
use Rattle.text.specs.Numbers.{spelled}
use Rattle.text.specs.Inner.{Put}
use Rattle.text.proofs.SpelledLaws.{spelled_short}
use Rattle.text.proofs.LineLaws.{ended, length_ended, length_first, put_first}
use Rattle.answer.specs.Answer.{refused_line}

module _ (n p : ℕ) where
  pub length_refused : length (refused_line n p) ≡ length (spelled n) + length (spelled p) + 10
  unfolding refused_line
  length_refused =
      omega (
        arith,
        length_first (ascii "refused") (spelled n) (spelled p ∷ []),
        length_first (spelled n) (spelled p) [],
        length_ended (spelled p) newline,
      )

  pub put_refused :
      {a b c d : List ℕ} {at next behind end : ℕ} → Put a at (ended (ascii "refused") tab) b next → Put b next (ended (spelled n) tab) c behind
      → Put c behind (ended (spelled p) newline) d end → Put a at (refused_line n p) d end
  unfolding refused_line
  put_refused x y z = put_first (ascii "refused") (spelled n) (spelled p ∷ []) x (put_first (spelled n) (spelled p) [] y z)

-- Numbers of 32 bits have ten digits at most.
pub refused_short : (n p : ℕ) → n < 2 ^ 32 → p < 2 ^ 32 → length (refused_line n p) ≤ 30
refused_short n p h l = omega (arith, length_refused n p, spelled_short 9 n (omega arith), spelled_short 9 p (omega arith))
