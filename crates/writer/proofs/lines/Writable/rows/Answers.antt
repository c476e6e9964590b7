-- Each turn tells the next row's line behind those of the rows before.
use Rattle.std.proofs.Common.{◌≡◌, arith}
use Rattle.recipe.specs.Tables.{lists_of, rows}
use Rattle.sheet.specs.Form.{spelled_row}
use Rattle.text.proofs.Takes.{Told, told_none, told_next}
use Rattle.writer.specs.Sheets.{row_at}
use Rattle.writer.proofs.SheetLaws.{rows_in_turn}
use Rattle.writer.proofs.lines.Writable.rows.Goals as goal

pub loop-i-init : goal.loop-i-init
loop-i-init g c =
    let laws : Told g.S.Sink.takes = record { nothing = g.met.S.Sink.nothing; joined = g.met.S.Sink.joined } in
    told_none laws (λ j. spelled_row (row_at (lists_of c.args.self.now.table) j)) 0 c.args.out.now (λ j h. absurd (omega arith))

pub loop-i-preserved : goal.loop-i-preserved
loop-i-preserved g c =
    let laws : Told g.S.Sink.takes = record { nothing = g.met.S.Sink.nothing; joined = g.met.S.Sink.joined } in
    told_next laws (λ j. spelled_row (row_at (lists_of c.args.self.now.table) j)) c.loop-i.invariant (rw c.row.ensures at c.row_line.ensures)

pub returns : goal.returns
returns g c =
    let t = lists_of c.args.self.now.table in
    let done : c.loop-i.i ≡ rows t = omega arith in
    rw (rows_in_turn t) (rw done at c.loop-i.invariant)
