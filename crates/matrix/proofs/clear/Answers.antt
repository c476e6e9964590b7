-- Each word that is there is filled with 0, and the others stay.
use Rattle.std.proofs.Common.{◌++◌, List, ℕ, drop, ap, ◌∙◌, arith}
use Rattle.std.specs.Prelude.{replicate}
use Rattle.std.proofs.lemmas.List.{length-take-le}
use Rattle.matrix.specs.Inner.{cleared}
use Rattle.matrix.proofs.MatrixLaws.{cleared_front}
use Rattle.matrix.proofs.OneWord.{held_words}
use Rattle.matrix.proofs.clear.Goals as goal

pub returns : goal.returns
unfolding cleared
returns c =
    let m = c.args.matrix.now in
    let n = c.held-n.result in
    ap (λ (part : List ℕ). part ++ drop n m)
    (c.fill.ensures.after (λ y e. e) ∙ ap (λ (k : ℕ). replicate k 0) (length-take-le n m (omega (arith, c.held-n.ensures))))
    ∙ cleared_front n m (omega (arith, c.held-n.ensures))
    ∙ held_words (λ k x. 0) m c.held-n.ensures
