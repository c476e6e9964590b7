-- What writing a sheet replies, and what it leaves in the lent bytes.
use Rattle.std.specs.Prelude.{List, ℕ, length, Result, Ok, Err}
use Rattle.numbers.specs.General.{laid}
use Rattle.numbers.specs.Sizes.{Size}
use Rattle.numbers.specs.declared.Refusal.{Refusal}
use Rattle.recipe.specs.Tables.{Table}
use Rattle.writer.specs.Rules.{writable}
use Rattle.writer.specs.Sheets.{sheet_of}

-- The reply by the judge's: the sheet's length, or the refusal.
abbrev pub written_as : List ℕ → Result Unit Refusal → Result ℕ Refusal
written_as sheet (Ok done) = Ok (length sheet)
written_as sheet (Err why) = Err why

-- What the lent bytes hold by the judge's reply: the sheet in front, or after a refusal what they held.
abbrev pub held_as : List ℕ → List ℕ → Result Unit Refusal → List ℕ
held_as sheet b (Ok done) = laid sheet b
held_as sheet b (Err why) = b

-- The reply to a table and room for so many bytes.
unfoldable pub written : Size → Table → ℕ → Result ℕ Refusal
written z t room = written_as (sheet_of t) (writable z t room)

-- What the lent bytes hold afterwards.
unfoldable pub bytes_written : Size → Table → List ℕ → List ℕ
bytes_written z t b = held_as (sheet_of t) b (writable z t (length b))
