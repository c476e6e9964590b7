-- What the analysis replies, and what it leaves in the lent matrix.
use Rattle.std.specs.Prelude.{List, ℕ, ◌*◌, length, Result, Ok, Err}
use Rattle.numbers.specs.Sizes.{Size}
use Rattle.numbers.specs.General.{laid, lowest}
use Rattle.numbers.specs.declared.Refusal.{Refusal}
use Rattle.calculus.specs.Syntax.{Program}
use Rattle.recipe.specs.Rules.{judged_with}
use Rattle.recipe.specs.Statements.{program_of}
use Rattle.recipe.specs.Tables.{Table}
use Rattle.analysis.specs.Rounds.{after, settled}

-- The first round that repeats. It is found within 3 rounds a procedure.
unfoldable pub rounds : ℕ → Program → ℕ
rounds w p = lowest (3 * length p) (settled w p)

-- Main's pairs in that round.
abbrev pub main_pairs : ℕ → Program → List ℕ
main_pairs w p = (after w p (rounds w p) 0).M

-- The rounds of an admitted table, and the refusal of any other.
abbrev pub analysed_as : Size → Program → Result Unit Refusal → Result ℕ Refusal
analysed_as z p (Ok admitted) = Ok (rounds z.words p)
analysed_as z p (Err r) = Err r

-- The matrix of an admitted table, and the lent one of any other; words beyond it stay.
abbrev pub matrix_as : Size → Program → List ℕ → Result Unit Refusal → List ℕ
matrix_as z p m (Ok admitted) = laid (main_pairs z.words p) m
matrix_as z p m (Err r) = m

-- The reply to a table and a lent matrix of so many words.
unfoldable pub analysed : Size → Table → ℕ → Result ℕ Refusal
analysed z t words = analysed_as z (program_of t) (judged_with z t words)

-- What the lent matrix holds afterwards.
unfoldable pub matrix_after : Size → Table → List ℕ → List ℕ
matrix_after z t m = matrix_as z (program_of t) m (judged_with z t (length m))
