-- Texts as bytes: the bytes that part fields and end lines, and those that are digits.
use Rattle.std.specs.Prelude.{Bool, ◌&&◌, List, [], ◌∷◌, ℕ, ◌+◌, leb}
use Prim.Native.Char.{code}
use Prim.Native.String as text
use Prim.Native.String.{String}

-- The bytes of a text of ASCII characters.
abbrev pub ascii : String → List ℕ
ascii text.[] = []
ascii (text.◌∷◌ c more) = code c ∷ ascii more

-- Two fields of a line are parted by this byte.
abbrev pub tab : ℕ
tab = 9

-- A line is ended by this byte.
abbrev pub newline : ℕ
newline = 10

-- The byte of a digit from 0 to 9.
abbrev pub digit : ℕ → ℕ
digit d = 48 + d

-- Whether a byte is a digit.
unfoldable pub is_digit : ℕ → Bool
is_digit b = leb (digit 0) b && leb b (digit 9)
