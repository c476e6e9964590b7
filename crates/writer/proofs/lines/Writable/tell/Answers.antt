-- The lines of the rows are told, and those of the procedures behind them.
use Rattle.recipe.specs.Tables.{lists_of}
use Rattle.writer.proofs.SheetLaws.{sheet_lines}
use Rattle.writer.proofs.lines.Writable.tell.Goals as goal

pub returns : goal.returns
returns g c = rw (sheet_lines (lists_of c.args.self.now.table)) (g.met.S.Sink.joined _ _ _ _ _ c.rows.ensures c.roots.ensures)
