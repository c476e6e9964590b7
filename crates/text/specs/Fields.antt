-- What stands at the front of some bytes: a field, read from the left, together with the bytes after it.
use Rattle.std.specs.Prelude.{cond, List, [], ◌∷◌, ℕ, zero, suc, ◌+◌, ◌-◌, ◌*◌, eqb}
use Rattle.text.specs.Bytes.{digit, is_digit}

-- A field: a number and the bytes after the field, or nothing of the right form.
pub data Field : Type 0 where
  holds : ℕ → List ℕ → Field
  broken : Field

-- The number n where the bytes begin with this text.
unfoldable pub text_at : List ℕ → ℕ → List ℕ → Field
text_at [] n s = holds n s
text_at (t ∷ text) n [] = broken
text_at (t ∷ text) n (b ∷ s) = cond (eqb b t) (text_at text n s) broken

-- The number that begins with the digits of n and goes on here, by at most so many digits, up to the byte `stop`.
unfoldable pub digits_at : ℕ → ℕ → ℕ → List ℕ → Field
digits_at stop more n [] = broken
digits_at stop zero n (b ∷ s) = cond (eqb b stop) (holds n s) broken
digits_at stop (suc more) n (b ∷ s) =
    cond (eqb b stop) (holds n s) (cond (is_digit b) (digits_at stop more (10 * n + (b - digit 0)) s) broken)

-- A number's first digit is followed by three at most, and a leading 0 by none.
unfoldable pub digits_after : ℕ → ℕ
digits_after b = cond (eqb b (digit 0)) 0 3

-- The number that stands here up to the byte `stop`: one to four digits, no leading zero save 0 itself.
unfoldable pub number_at : ℕ → List ℕ → Field
number_at stop [] = broken
number_at stop (b ∷ s) = cond (is_digit b) (digits_at stop (digits_after b) (b - digit 0) s) broken
