-- Each turn adds the pairs of one more label, and after the last the sum is that of all labels.
use Rattle.std.proofs.Common.{◌≡◌, ◌+◌, ◌<◌, ◌≤◌, List, ℕ, length, take, refl, sym, ap, ap₂, ◌∙◌, get_or, add-one, arith}
use Rattle.std.specs.Int.Bits.{bit_and}
use Rattle.std.specs.Int.Count.{ones}
use Rattle.std.proofs.lemmas.List.{length-take-le}
use lib.Seq.{get_or-take}
use Rattle.numbers.specs.General.{sum_below}
use Rattle.numbers.specs.Sizes.{ours, label_ceiling}
use Rattle.labels.specs.Words.{Words}
use Rattle.matrix.proofs.CountLaws.{high_mask, pairs_below, pairs_few, pairs_held, row_few}
use Rattle.matrix.proofs.OneWord.{pairs_one}
use Rattle.matrix.proofs.count.Goals as goal

-- The word of a turn is the matrix's.
counted :
    (m : List ℕ) (n i r : ℕ) → n ≤ length m → i < length (take n m) → r ≡ ones (bit_and (get_or (take n m) i 0) (high_mask i))
    → r ≡ ones (bit_and (get_or m i 0) (high_mask i))
counted m n i r h l e =
    e ∙ ap (λ (x : ℕ). ones (bit_and x (high_mask i))) (get_or-take n m i 0 (omega (arith, length-take-le n m h)))

pub loop-i-init : goal.loop-i-init
unfolding pairs_below sum_below
loop-i-init c = refl

pub overflow_add-sum : goal.overflow_add-sum
overflow_add-sum c =
    let m = c.args.matrix.now in
    let n = c.held-n.result in
    let i = c.loop-i.i in
    let wm : Words m = λ k. (c.type_inv.matrix k).fits in
    let within : n ≤ length m = omega (arith, c.held-n.ensures) in
    let size : length (take n m) ≡ n = length-take-le n m within in
    let h : i < label_ceiling ours.words = omega (arith, c.held-n.ensures, c.loop-i-test.true) in
    omega (arith, c.loop-i.invariant, pairs_few m wm i (omega arith), row_few m wm i h, counted m n i _ within c.loop-i-test.true c.pairs_from-sum.ensures)

pub loop-i-preserved : goal.loop-i-preserved
unfolding pairs_below sum_below
loop-i-preserved c =
    let m = c.args.matrix.now in
    let within : c.held-n.result ≤ length m = omega (arith, c.held-n.ensures) in
    ap₂ ◌+◌ c.loop-i.invariant (counted m c.held-n.result c.loop-i.i _ within c.loop-i-test.true c.pairs_from-sum.ensures)
    ∙ sym (ap (pairs_below m) (add-one c.loop-i.i))

pub returns : goal.returns
unfolding pairs_below
returns c =
    let m = c.args.matrix.now in
    let n = c.held-n.result in
    let within : n ≤ length m = omega (arith, c.held-n.ensures) in
    let size : length (take n m) ≡ n = length-take-le n m within in
    let done : c.loop-i.i ≡ n = omega (arith, c.loop-i-test.false, c.loop-i.auto.i-end) in
    c.loop-i.invariant
    ∙ ap (pairs_below m) done
    ∙ pairs_held m (label_ceiling ours.words) c.held-n.ensures
    ∙ sym (pairs_one m (λ k. (c.type_inv.matrix k).fits))
