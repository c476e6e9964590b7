-- Small texts, computed by the definitions: numbers spelled and read, and texts found.
-- Assumes nothing.
use mathlib.Core.Path.{◌≡◌, refl}
use Rattle.text.specs.Bytes.{ascii, tab, is_digit}
use Rattle.text.specs.Numbers.{spelled_in, spelled}
use Rattle.text.specs.Fields.{text_at, digits_at, digits_after, number_at}
use Rattle.text.specs.Inner.{token_at}
use Rattle.std.specs.Prelude.{Some, None}

nothing : spelled 0 ≡ ascii "0"
unfolding spelled spelled_in
nothing = refl

one_digit : spelled 9 ≡ ascii "9"
unfolding spelled spelled_in
one_digit = refl

two_digits : spelled 10 ≡ ascii "10"
unfolding spelled spelled_in
two_digits = refl

four_digits : spelled 2080 ≡ ascii "2080"
unfolding spelled spelled_in
four_digits = refl

number_found : token_at (number_at tab) (ascii "x\t2080\ty") 2 ≡ Some (2080, 7)
unfolding token_at number_at digits_at digits_after is_digit
number_found = refl

leading_zero : token_at (number_at tab) (ascii "07\t") 0 ≡ None
unfolding token_at number_at digits_at digits_after is_digit
leading_zero = refl

five_digits : token_at (number_at tab) (ascii "10000\t") 0 ≡ None
unfolding token_at number_at digits_at digits_after is_digit
five_digits = refl

text_found : token_at (text_at (ascii "skip") 5) (ascii "R\tskip") 2 ≡ Some (5, 6)
unfolding token_at text_at
text_found = refl

text_cut_short : token_at (text_at (ascii "skip") 5) (ascii "R\tski") 2 ≡ None
unfolding token_at text_at
text_cut_short = refl
