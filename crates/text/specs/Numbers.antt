-- A number in decimal: its digits as bytes, the highest first, and no leading zero save 0 itself.
use Rattle.std.specs.Prelude.{cond, List, [], ◌∷◌, ◌++◌, ℕ, zero, suc, ◌/◌, ◌%◌, ltb}
use Rattle.text.specs.Bytes.{digit}

-- The digits of n, given that it has at most this many.
unfoldable pub spelled_in : ℕ → ℕ → List ℕ
spelled_in zero n = []
spelled_in (suc most) n = cond (ltb n 10) (digit n ∷ []) (spelled_in most (n / 10) ++ (digit (n % 10) ∷ []))

-- The digits of n, of which there are no more than n + 1.
unfoldable pub spelled : ℕ → List ℕ
spelled n = spelled_in (suc n) n
