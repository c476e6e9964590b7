-- The other matrix's words are copied, and 0 is filled in for those that it lacks.
use Rattle.std.proofs.Common.{get_or, ◌∙◌, arith}
use Rattle.matrix.specs.Inner.{copied}
use Rattle.matrix.proofs.MatrixLaws.{copied_in_parts}
use Rattle.matrix.proofs.OneWord.{held_words}
use Rattle.matrix.proofs.copy.Goals as goal

pub returns : goal.returns
unfolding copied
returns c =
    let m = c.args.matrix.now in
    let o = c.args.other.now in
    copied_in_parts c.held-n.result c.min-there.result o m c.min-there.ensures (omega (arith, c.held-n.ensures)) c.copy_from_slice.ensures.after
    (c.fill.ensures.after (λ y e. e))
    ∙ held_words (λ k x. get_or o k 0) m c.held-n.ensures
