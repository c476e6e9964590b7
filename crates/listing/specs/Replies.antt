-- What listing the pairs replies, and what it leaves in the lent matrix and the lent bytes.
use Rattle.std.specs.Prelude.{cond, List, ℕ, leb, length, Result, Ok, Err}
use Rattle.numbers.specs.General.{laid}
use Rattle.numbers.specs.Sizes.{Size}
use Rattle.numbers.specs.declared.Refusal.{Refusal}
use Rattle.numbers.specs.declared.Refusal.TheVariants.{ShortBytes}
use Rattle.calculus.specs.Syntax.{Program}
use Rattle.recipe.specs.Rules.{judged_with}
use Rattle.recipe.specs.Statements.{program_of}
use Rattle.recipe.specs.Tables.{Table}
use Rattle.calls.specs.Reached.{wide}
use Rattle.analysis.specs.Replies.{rounds, main_pairs, matrix_after}
use Rattle.listing.specs.Listing.{listing}

-- The listing of a program: main's pairs and the rounds of the analysis, and the verdict.
unfoldable pub listing_of : Size → Program → List ℕ
listing_of z p = listing z.words (main_pairs z.words p) (rounds z.words p) (wide p)

-- The reply to a text and room for so many bytes: the text's length, or the refusal of a text that does not fit.
unfoldable pub fitted : List ℕ → ℕ → Result ℕ Refusal
fitted text room = cond (leb (length text) room) (Ok (length text)) (Err ShortBytes)

-- The reply to an admitted table goes by the room, and any other table is refused as the judge refuses it.
abbrev pub listed_as : Size → Program → ℕ → Result Unit Refusal → Result ℕ Refusal
listed_as z p room (Ok admitted) = fitted (listing_of z p) room
listed_as z p room (Err r) = Err r

-- What lent storage holds after the reply: the new content, or after a refusal the old.
abbrev pub held_after : List ℕ → List ℕ → Result ℕ Refusal → List ℕ
held_after new old (Ok n) = new
held_after new old (Err r) = old

-- The reply to a table, a lent matrix of so many words, and room for so many bytes.
unfoldable pub listed : Size → Table → ℕ → ℕ → Result ℕ Refusal
listed z t words room = listed_as z (program_of t) room (judged_with z t words)

-- What the lent matrix holds afterwards: what the analysis leaves in it, unless the reply is a refusal.
unfoldable pub matrix_listed : Size → Table → List ℕ → ℕ → List ℕ
matrix_listed z t m room = held_after (matrix_after z t m) m (listed z t (length m) room)

-- What the lent bytes hold afterwards: the listing in front, unless the reply is a refusal.
unfoldable pub bytes_listed : Size → Table → ℕ → List ℕ → List ℕ
bytes_listed z t words b = held_after (laid (listing_of z (program_of t)) b) b (listed z t words (length b))
