-- Which bytes are digits: those from the byte of 0 to the byte of 9, by the two tests of the definition.
-- Assumes nothing.
use mathlib.Core.Path.{◌≡◌, refl, ◌∙◌}
use mathlib.Core.Bool.{Bool, true, false, ◌&&◌, false≢true}
use Prim.Native.Nat.{ℕ, ◌≤◌, ◌<◌}
use native.Mathlib.Omega.{arith}
use lib.Dec.{leb}
use borrow.Author.Tests.{leb-true, le-leb, lt-leb}
use Rattle.std.specs.Char.{is_ascii_digit}
use Rattle.text.specs.Bytes.{digit, is_digit, tab, newline}

both_true : (s t : Bool) → s && t ≡ true → (s ≡ true) × (t ≡ true)
both_true true t e = (refl, e)
both_true false t e = absurd (false≢true e)

pub digit_bounds : (b : ℕ) → is_digit b ≡ true → (digit 0 ≤ b) × (b ≤ digit 9)
unfolding is_digit
digit_bounds b e =
    let p = both_true (leb (digit 0) b) (leb b (digit 9)) e in
    (leb-true (digit 0) b p.0, leb-true b (digit 9) p.1)

-- Std's test is ours.
pub std_digit : (b : ℕ) → is_ascii_digit b ≡ is_digit b
unfolding is_digit
std_digit b = refl

pub from_zero : (b : ℕ) → digit 0 ≤ b → is_digit b ≡ leb b (digit 9)
unfolding is_digit
from_zero b h = rw (le-leb (digit 0) b h, is_digit)

pub below_zero : (b : ℕ) → b < digit 0 → is_digit b ≡ false
unfolding is_digit
below_zero b h = rw (lt-leb (digit 0) b h, is_digit)

pub digit_is : (d : ℕ) → d ≤ 9 → is_digit (digit d) ≡ true
digit_is d h = from_zero (digit d) (omega arith) ∙ le-leb (digit d) (digit 9) (omega arith)

-- No digit parts fields or ends a line.
pub tab_no_digit : is_digit tab ≡ false
tab_no_digit = below_zero tab (omega arith)

pub newline_no_digit : is_digit newline ≡ false
newline_no_digit = below_zero newline (omega arith)
