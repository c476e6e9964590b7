-- Only the contracts of inner functions speak of these: what the reader's small functions give, said by the definitions of `Lines` and `Reading`.
use Rattle.std.specs.Prelude.{List, ℕ, drop, Option, Some, None, Result, Ok, Err}
use Rattle.numbers.specs.declared.Refusal.{Refusal}
use Rattle.sheet.specs.Lines as lines
use Rattle.sheet.specs.Reading as reading
use Rattle.sheet.specs.declared.lines.Line.{Line}
use Rattle.sheet.specs.declared.lines.Line.TheVariants.{Row, Root}

-- A line that was found, or none, as the line that it stands for: the place after it as the bytes from there on.
abbrev pub line_of : List ℕ → Option (Line × ℕ) → lines.Line
line_of bytes (Some (Row row, next)) = lines.row_line row (drop next bytes)
line_of bytes (Some (Root root, next)) = lines.root_line root (drop next bytes)
line_of bytes None = lines.wrong_line

-- A step of the code as the step that it stands for, in the same way.
abbrev pub step_for : List ℕ → Result (Option (Line × ℕ)) Refusal → reading.Step
step_for bytes (Ok (Some (Row row, next))) = reading.keep_row row (drop next bytes)
step_for bytes (Ok (Some (Root root, next))) = reading.keep_root root (drop next bytes)
step_for bytes (Ok None) = reading.done
step_for bytes (Err why) = reading.refuse why
