-- A turn joins the word of the lowest label that is left, if it is there, and takes the label from what is left.
use Rattle.std.proofs.Common.{◌≡◌, ◌<◌, ℕ, refl, sym, ap, ◌∙◌, arith}
use Rattle.numbers.specs.Sizes.{ours, matrix_words}
use Rattle.labels.specs.Words.{changed}
use Rattle.matrix.specs.Inner.{joining}
use Rattle.matrix.proofs.Lowest.{less_lowest}
use Rattle.matrix.proofs.Joining.{fewer, joins, beyond, all_joined}
use Rattle.matrix.proofs.join_each.Goals as goal
use Rattle.matrix.proofs.join_each.Goals.{then-i-matrix, else-i-matrix}

pub loop-rest-init : goal.loop-rest-init
loop-rest-init c = refl

pub loop-rest-smaller : goal.loop-rest-smaller
loop-rest-smaller c = fewer c.loop-rest.rest (omega (arith, c.loop-rest-test.true))

pub loop-rest-preserved : goal.loop-rest-preserved
loop-rest-preserved c =
    let rest = c.loop-rest.rest in
    let some : 0 < rest = omega (arith, c.loop-rest-test.true) in
    let fits = c.loop-rest.auto.rest-fits.fits in
    let p = c.args.partners in
    let n = matrix_words ours.words in
    let step : changed n (joining (less_lowest rest) p) c.if-i-matrix.matrix ≡ changed n (joining rest p) c.loop-rest.matrix
    = elim c.if-i-matrix.branch [
      | then-i-matrix w ↦ ap (changed n (joining (less_lowest rest) p)) w.matrix-is ∙ joins rest some fits p c.loop-rest.matrix w.if-i-matrix.true
      | else-i-matrix w ↦ ap (changed n (joining (less_lowest rest) p)) w.matrix-is ∙ beyond rest some fits p c.loop-rest.matrix (omega (arith, w.if-i-matrix.false))
    ] in
    step ∙ c.loop-rest.invariant

pub returns : goal.returns
returns c =
    let n = matrix_words ours.words in
    sym (all_joined c.args.partners c.loop-rest.matrix)
    ∙ ap (λ (r : ℕ). changed n (joining r c.args.partners) c.loop-rest.matrix) (sym c.loop-rest-test.false)
    ∙ c.loop-rest.invariant
