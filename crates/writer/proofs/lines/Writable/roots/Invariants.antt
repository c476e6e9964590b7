-- The lines of the procedures before this one are told.
use Rattle.std.proofs.Common.{get_or}
use Rattle.numbers.specs.General.{in_turn}
use Rattle.sheet.specs.Form.{spelled_root}
use Rattle.writer.proofs.lines.Writable.roots.Given as goal

abbrev pub invariant-loop-root : goal.invariant-loop-root
invariant-loop-root g l =
    g.S.Sink.takes l.fn.out (in_turn l.root-index (λ f. spelled_root (get_or l.fn.self.table.roots.now f 0))) l.out
