-- Each turn tells the next procedure's line behind those of the procedures before.
use Rattle.std.proofs.Common.{◌≡◌, arith, get_or, length}
use Rattle.sheet.specs.Form.{spelled_root}
use Rattle.text.proofs.Takes.{Told, told_none, told_next}
use Rattle.writer.proofs.SheetLaws.{roots_in_turn}
use Rattle.writer.proofs.lines.Writable.roots.Goals as goal

pub loop-root-init : goal.loop-root-init
loop-root-init g c =
    let laws : Told g.S.Sink.takes = record { nothing = g.met.S.Sink.nothing; joined = g.met.S.Sink.joined } in
    told_none laws (λ f. spelled_root (get_or c.args.self.now.table.roots.now f 0)) 0 c.args.out.now (λ j h. absurd (omega arith))

pub loop-root-preserved : goal.loop-root-preserved
loop-root-preserved g c =
    let laws : Told g.S.Sink.takes = record { nothing = g.met.S.Sink.nothing; joined = g.met.S.Sink.joined } in
    told_next laws (λ f. spelled_root (get_or c.args.self.now.table.roots.now f 0)) c.loop-root.invariant c.root_line.ensures

pub returns : goal.returns
returns g c =
    let roots = c.args.self.now.table.roots.now in
    let done : c.loop-root.root-index ≡ length roots = omega arith in
    rw (roots_in_turn roots) (rw done at c.loop-root.invariant)
