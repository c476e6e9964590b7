-- At each turn the state holds round k and no earlier round repeated, so the first that does is the reported one, and its first summary, whose pairs go
-- into the matrix, is main's.
use Rattle.std.proofs.Common.{rules, arith}
use Rattle.std.proofs.lemmas.Slice.Eq.{slice_eq-Decides}
use Rattle.numbers.specs.Sizes.{ours}
use Rattle.matrix.proofs.MatrixLaws.{copied_laid}
use Rattle.analysis.proofs.GoingLaws.{parts_decide, rounds_begin, whole, not_yet, rounds_go_on, rounds_end, main_first}
use Rattle.analysis.proofs.rounds.run.Goals as goal

pub loop-new-init : goal.loop-new-init
loop-new-init c = rounds_begin c.args.recipe.now.admitted c.empty-held.ensures

pub invariant_of-turn : goal.invariant_of-turn
invariant_of-turn c = record { whole = whole c.loop-new.invariant }

pub overflow_add-rounds : goal.overflow_add-rounds
overflow_add-rounds c =
    let h = not_yet c.loop-new.invariant _ c.round.ensures.bodies c.round.ensures.others _ (search rules)
    (slice_eq-Decides parts_decide _ _ _ c.eq.ensures) c.if-eq.false in
    record { fits = omega arith }

pub loop-new-smaller : goal.loop-new-smaller
loop-new-smaller c =
    let h = not_yet c.loop-new.invariant _ c.round.ensures.bodies c.round.ensures.others _ (search rules)
    (slice_eq-Decides parts_decide _ _ _ c.eq.ensures) c.if-eq.false in
    omega arith

pub loop-new-preserved : goal.loop-new-preserved
loop-new-preserved c =
    rounds_go_on c.loop-new.invariant _ c.round.ensures.bodies c.round.ensures.others _ (search rules)
    (slice_eq-Decides parts_decide _ _ _ c.eq.ensures) c.if-eq.false

pub returns : goal.returns
returns c =
    let g = c.loop-new.invariant in
    let e = rounds_end g _ c.round.ensures.bodies c.round.ensures.others _ (search rules)
    (slice_eq-Decides parts_decide _ _ _ c.eq.ensures) c.if-eq.true in
    let main = main_first g e in
    let size = ((whole g).of 0 (omega arith)).M.size in
    let put = copied_laid ours.words c.args.matrix.now _ c.requires size in
    record { count = e; pairs = cc }
