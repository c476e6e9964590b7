-- Each turn tells the lines of the next label's pairs behind those of the labels before.
use Rattle.std.proofs.Common.{◌≡◌, arith}
use Rattle.numbers.specs.Sizes.{ours, label_ceiling}
use Rattle.listing.specs.Listing.{lines}
use Rattle.listing.proofs.PairLaws.{lines_in_turn, row_of, row_one}
use Rattle.text.proofs.Takes.{Told, told_none, told_next}
use Rattle.listing.proofs.lines.all.Goals as goal

pub loop-i-init : goal.loop-i-init
loop-i-init g c =
    let laws : Told g.S.Sink.takes = record { nothing = g.met.S.Sink.nothing; joined = g.met.S.Sink.joined } in
    told_none laws (λ k. lines (row_of c.args.matrix.now k)) 0 c.args.out.now (λ j h. absurd (omega arith))

pub loop-i-preserved : goal.loop-i-preserved
loop-i-preserved g c =
    let laws : Told g.S.Sink.takes = record { nothing = g.met.S.Sink.nothing; joined = g.met.S.Sink.joined } in
    let m = c.args.matrix.now in
    told_next laws (λ k. lines (row_of m k)) c.loop-i.invariant (rw (row_one m c.loop-i.i (omega arith)) c.row.ensures)

pub returns : goal.returns
returns g c =
    let done : c.loop-i.i ≡ label_ceiling ours.words = omega arith in
    rw (lines_in_turn (row_of c.args.matrix.now) (label_ceiling ours.words)) (rw done at c.loop-i.invariant)
