-- The published number and place of each reply that refuses.
use Rattle.std.specs.Prelude.{ℕ}
use Rattle.numbers.specs.declared.Refusal.{Refusal}
use Rattle.numbers.specs.declared.Refusal.TheVariants.{Sizes, ShortMatrix, UnknownKind, WrongOperand, NoSuchRow, UsedAgain, Unused}
use Rattle.numbers.specs.declared.Refusal.TheVariants.{LongSheet, WrongForm, NoRoom, ShortBytes, LongOperand, LongRoot}

-- The number of a refusal, and the row, procedure or line that it names, 0 where it names none.
abbrev pub published : Refusal → ℕ × ℕ
published Sizes = (1, 0)
published ShortMatrix = (2, 0)
published (UnknownKind row) = (3, row.0)
published (WrongOperand row) = (4, row.0)
published (NoSuchRow proc) = (5, proc.0)
published (UsedAgain row) = (6, row.0)
published (Unused row) = (7, row.0)
published LongSheet = (11, 0)
published (WrongForm line) = (12, line.0)
published (NoRoom line) = (13, line.0)
published ShortBytes = (14, 0)
published (LongOperand row) = (15, row.0)
published (LongRoot proc) = (15, proc.0)

-- The number of a refusal.
abbrev pub refusal_number : Refusal → ℕ
refusal_number r = (published r).0

-- The place that a refusal names.
abbrev pub refusal_place : Refusal → ℕ
refusal_place r = (published r).1
