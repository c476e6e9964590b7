-- Crossing with the empty set changes nothing, and else both sets are joined to the labels of both, and the other set to those of one alone.
use Rattle.std.proofs.Common.{sym, ap, ◌∙◌}
use Rattle.numbers.specs.Sizes.{ours, matrix_words}
use Rattle.labels.specs.Words.{changed}
use Rattle.matrix.specs.Inner.{joining}
use Rattle.matrix.proofs.OneWord.{crossed_none_left, crossed_none_right}
use Rattle.matrix.proofs.Joining.{alone_in, crossed_in_three}
use Rattle.matrix.proofs.cross.Goals as goal
use Rattle.matrix.proofs.cross.Goals.{then-a-eq0-via-then-a-eq0, then-a-eq0-via-else-a-eq0+then-b-eq0}

pub returns-then-a-eq0 : goal.returns-then-a-eq0
returns-then-a-eq0 c =
    elim c.then-a-eq0.branch [
      | then-a-eq0-via-then-a-eq0 w ↦ sym (crossed_none_left c.args.a c.args.b c.args.matrix.now w.if-a-eq0.true)
      | then-a-eq0-via-else-a-eq0+then-b-eq0 w ↦ sym (crossed_none_right c.args.a c.args.b c.args.matrix.now w.if-b-eq0.true)
    ]

pub returns : goal.returns
returns c =
    let n = matrix_words ours.words in
    let a = c.args.a in
    let b = c.args.b in
    c.join_each-3.ensures
    ∙ ap (changed n (joining (alone_in b a) a)) (c.join_each-2.ensures ∙ ap (changed n (joining (alone_in a b) b)) c.join_each.ensures)
    ∙ crossed_in_three a b c.ranges.a.fits c.ranges.b.fits c.args.matrix.now
