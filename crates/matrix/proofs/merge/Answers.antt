-- The loop joins each word that both hold, and with a word that the other matrix lacks nothing is joined.
use Rattle.std.proofs.Common.{◌≤◌, length, get_or, refl, ap, ◌∙◌, arith}
use lib.ListN.{get_or-eq_default}
use Rattle.std.specs.Int.Bits.{bit_or, or_zero_r}
use Rattle.numbers.specs.Sizes.{ours, matrix_words}
use Rattle.labels.specs.Sets.{joined}
use Rattle.labels.proofs.ChangedLaws.{changed_no_further}
use Rattle.labels.proofs.InPlace.{begins, goes_on_lem, part_ends}
use Rattle.matrix.proofs.merge.Goals as goal

pub loop-i-init : goal.loop-i-init
loop-i-init c = begins (omega arith)

pub loop-i-preserved : goal.loop-i-preserved
loop-i-preserved c = goes_on_lem c.loop-i.invariant c.loop-i-test.true refl

pub returns : goal.returns
unfolding joined
returns c =
    let m = c.args.matrix.now in
    let o = c.args.other.now in
    part_ends c.min-n.result m (omega (arith, c.min-n.ensures, c.held.ensures)) c.loop-i.invariant c.loop-i-test.false
    ∙ changed_no_further c.min-n.result (matrix_words ours.words) (λ k x. bit_or x (get_or o k 0)) m (omega (arith, c.min-n.ensures, c.held.ensures))
    (λ k g l j.
    let past : length o ≤ k = omega (arith, c.min-n.ensures, c.held.ensures) in
    ap (bit_or (get_or m k 0)) (get_or-eq_default o 0 past) ∙ or_zero_r (get_or m k 0))
