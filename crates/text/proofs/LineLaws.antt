-- A line is its fields, each with the byte that ends it, one behind the other: a byte before a list is a list of one before it.
-- Assumes nothing.
use mathlib.Core.Path.{◌≡◌, sym, ap, ◌∙◌}
use mathlib.Core.List.{List, [], ◌∷◌, ◌++◌}
use Prim.Native.Nat.{ℕ, ◌+◌}
use native.Mathlib.Omega.{arith}
use lib.ListN.{length, length-append}
use lib.Seq.{append_snoc}
use Rattle.text.specs.Bytes.{tab}
use Rattle.text.specs.Lines.{line}
use Rattle.text.specs.Inner.{Put}
use Rattle.text.proofs.PutLaws.{put_behind}

-- A field with the byte that ends it.
abbrev pub ended : List ℕ → ℕ → List ℕ
ended field end = field ++ (end ∷ [])

pub length_ended : (field : List ℕ) (end : ℕ) → length (ended field end) ≡ length field + 1
length_ended field end = length-append field (end ∷ [])

-- The first field of a line, and the line of the others.
module _ (field next : List ℕ) (more : List (List ℕ)) where
  pub first_field : line field (next ∷ more) ≡ ended field tab ++ line next more
  first_field = sym (append_snoc field tab (line next more))

  pub length_first : length (line field (next ∷ more)) ≡ length field + 1 + length (line next more)
  length_first = ap length first_field ∙ omega (arith, length-append (ended field tab) (line next more), length_ended field tab)

  pub put_first :
      {a b c : List ℕ} {at mid end : ℕ} → Put a at (ended field tab) b mid → Put b mid (line next more) c end
      → Put a at (line field (next ∷ more)) c end
  put_first p q = rw first_field (put_behind p q)
