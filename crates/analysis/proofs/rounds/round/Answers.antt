-- Each turn stores one more body, and there are no more procedures than places.
use Rattle.std.proofs.Common.{◌∙◌, arith}
use Rattle.numbers.specs.Sizes.{ours}
use Rattle.recipe.proofs.Admitted.{root_row}
use Rattle.analysis.proofs.RowCases.{on, right_sizes}
use Rattle.analysis.proofs.RoundLaws.{round_goes_on, root_body}
use Rattle.analysis.proofs.rounds.round.Goals as goal

pub offset_bounds-new-f : goal.offset_bounds-new-f
offset_bounds-new-f c = record { fits = omega (arith, (right_sizes c.args.turn.now).few_procs_lem) }

pub bounds-new-f : goal.bounds-new-f
bounds-new-f c = omega (arith, (right_sizes c.args.turn.now).few_procs_lem)

pub body_summary-requires : goal.body_summary-requires
body_summary-requires c =
    let u = c.args.turn.now in
    root_row ours (on u) u.recipe.admitted c.loop-f.f c.loop-f-test.true

pub loop-f-preserved : goal.loop-f-preserved
loop-f-preserved c =
    let u = c.args.turn.now in
    round_goes_on c.body_summary.new.new c.loop-f.invariant (omega (arith, (right_sizes u).few_procs_lem, c.loop-f-test.true))
    (c.body_summary.ensures ∙ root_body ours.words (on u) u.held.now _ c.loop-f-test.true)
