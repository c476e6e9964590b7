-- Below its own label a label has no pair, and each turn tells the line of the next pair, if it is marked.
use Rattle.std.proofs.Common.{◌≡◌, [], ◌∷◌, sym, ◌∙◌, arith}
use Rattle.numbers.specs.Sizes.{ours, label_ceiling}
use Rattle.listing.specs.Pairs.{pair_at}
use Rattle.listing.specs.Listing.{lines}
use Rattle.listing.proofs.PairLaws.{lines_in_turn, no_line_below, line_of_marked, no_line_of_unmarked}
use Rattle.text.proofs.Takes.{Told, told_none, told_next}
use Rattle.listing.proofs.lines.row.Goals as goal
use Rattle.listing.proofs.lines.row.Goals.{then-is_in, else-is_in}

pub loop-j-init : goal.loop-j-init
loop-j-init g c =
    let laws : Told g.S.Sink.takes = record { nothing = g.met.S.Sink.nothing; joined = g.met.S.Sink.joined } in
    let s = c.args.partners ∷ [] in
    told_none laws (λ k. lines (pair_at s c.args.i.0 k)) c.args.i.0 c.args.out.now (no_line_below s c.args.i.0)

pub loop-j-preserved : goal.loop-j-preserved
loop-j-preserved g c =
    let laws : Told g.S.Sink.takes = record { nothing = g.met.S.Sink.nothing; joined = g.met.S.Sink.joined } in
    let s = c.args.partners ∷ [] in
    let i = c.args.i.0 in
    let j = c.loop-j.j in
    told_next laws (λ k. lines (pair_at s i k)) c.loop-j.invariant
    (elim c.if-is_in.branch [
      | then-is_in w ↦ rw (line_of_marked s i j c.loop-j.auto.j (sym c.is_in.ensures ∙ w.if-is_in.true), w.out-is) w.line.ensures
      | else-is_in w ↦ rw (no_line_of_unmarked s i j c.loop-j.auto.j (sym c.is_in.ensures ∙ w.if-is_in.false), w.out-is) (laws.nothing c.loop-j.out)
    ])

pub returns : goal.returns
returns g c = let done : c.loop-j.j ≡ label_ceiling ours.words = omega arith in
    rw (lines_in_turn (pair_at (c.args.partners ∷ []) c.args.i.0) (label_ceiling ours.words)) (rw done at c.loop-j.invariant)
