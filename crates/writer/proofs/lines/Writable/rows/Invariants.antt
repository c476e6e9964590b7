-- The lines of the rows before this one are told.
use Rattle.numbers.specs.General.{in_turn}
use Rattle.recipe.specs.Tables.{lists_of}
use Rattle.sheet.specs.Form.{spelled_row}
use Rattle.writer.specs.Sheets.{row_at}
use Rattle.writer.proofs.lines.Writable.rows.Given as goal

abbrev pub invariant-loop-i : goal.invariant-loop-i
invariant-loop-i g l = g.S.Sink.takes l.fn.out (in_turn l.i (λ j. spelled_row (row_at (lists_of l.fn.self.table) j))) l.out
