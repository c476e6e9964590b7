-- At each kind the children's summaries give the row's, and a child's number is below the row's.
use Rattle.std.proofs.Common.{◌∷◌, [], ℕ, refl, ap, arith}
use Rattle.numbers.specs.Sizes.{ours}
use Rattle.recipe.proofs.Operands.{last_one}
use Rattle.recipe.proofs.Admitted.{kind_there, step_label, seq_children, only_child, call_target}
use Rattle.analysis.specs.Summaries.{WordSummary}
use Rattle.analysis.proofs.Shape.{by_parts}
use Rattle.analysis.proofs.RowCases.{on, right_sizes, standing, skip_row, step_row_lem, seq_row_lem, loop_row_lem, async_row_lem, finish_row_lem, call_row_lem}
use Rattle.analysis.proofs.rows.+row_summary.Goals as goal

pub bounds-table-i : goal.bounds-table-i
bounds-table-i t c =
    let u = c.args.turn.now in
    omega (arith, (right_sizes u).xs_match, c.requires)

pub overflow_cast-x : goal.overflow_cast-x
overflow_cast-x t c =
    let u = c.args.turn.now in
    let l = step_label ours (on u) u.recipe.admitted _ c.requires
    (rw (c.try_from.ensures, c.in-Ok.is, c.in-Step.is)) in
    record { fits = omega arith }

pub row_summary-first-requires : goal.row_summary-first-requires
row_summary-first-requires t c =
    let u = c.args.turn.now in
    let l = seq_children ours (on u) u.recipe.admitted _ c.requires
    (rw (c.try_from.ensures, c.in-Ok.is, c.in-Seq.is)) in
    (omega (arith, l.0, c.decreases), omega (arith, l.0, c.requires))

pub bounds-table-i-in-Seq : goal.bounds-table-i-in-Seq
bounds-table-i-in-Seq t c =
    let u = c.args.turn.now in
    omega (arith, (right_sizes u).ys_match, c.requires)

pub row_summary-second-requires : goal.row_summary-second-requires
row_summary-second-requires t c =
    let u = c.args.turn.now in
    let l = seq_children ours (on u) u.recipe.admitted _ c.requires
    (rw (c.try_from.ensures, c.in-Ok.is, c.in-Seq.is)) in
    (omega (arith, l.1, c.decreases), omega (arith, l.1, c.requires))

pub row_summary-body-requires : goal.row_summary-body-requires
row_summary-body-requires t c =
    let u = c.args.turn.now in
    let l = only_child ours (on u) u.recipe.admitted _ c.requires c.in-Loop.is (rw (c.try_from.ensures, c.in-Ok.is)) in
    (omega (arith, l, c.decreases), omega (arith, l, c.requires))

pub called-requires : goal.called-requires
called-requires t c =
    let u = c.args.turn.now in
    let l = call_target ours (on u) u.recipe.admitted _ c.requires
    (rw (c.try_from.ensures, c.in-Ok.is, c.in-Call.is)) in
    omega (arith, l, (right_sizes u).few_procs_lem)

pub returns-in-Skip : goal.returns-in-Skip
returns-in-Skip t c =
    let u = c.args.turn.now in
    skip_row (standing u c.requires c.told-pairs c.fits-pairs)
    (rw (c.try_from.ensures, c.in-Ok.is, c.in-Skip.is)) refl
    (ap (λ (x : WordSummary). x.O) c.empty-in-Skip.ensures) (ap (λ (x : WordSummary). x.L) c.empty-in-Skip.ensures)

pub returns-in-Step : goal.returns-in-Step
returns-in-Step t c =
    let u = c.args.turn.now in
    step_row_lem (standing u c.requires c.told-pairs c.fits-pairs)
    (rw (c.try_from.ensures, c.in-Ok.is, c.in-Step.is)) refl c.step.ensures.stays c.step.ensures.runs

pub returns-in-Seq : goal.returns-in-Seq
returns-in-Seq t c =
    let u = c.args.turn.now in
    seq_row_lem (standing u c.requires c.told-pairs c.fits-pairs) c.row_summary-first.ensures
    (rw (c.try_from.ensures, c.in-Ok.is, c.in-Seq.is)) c.row_summary-second.ensures c.sequence.ensures

pub returns-in-Loop-kind : goal.returns-in-Loop-kind
returns-in-Loop-kind t c =
    let u = c.args.turn.now in
    loop_row_lem (standing u c.requires c.told-pairs c.fits-pairs) c.row_summary-body.ensures
    (rw (c.try_from.ensures, c.in-Ok.is, c.in-Loop-kind.is)) c.repetition.ensures

pub returns-in-Async : goal.returns-in-Async
returns-in-Async t c =
    let u = c.args.turn.now in
    async_row_lem (standing u c.requires c.told-pairs c.fits-pairs) c.row_summary-body.ensures
    (rw (c.try_from.ensures, c.in-Ok.is, c.in-Async.is))
    (by_parts refl (ap (λ (n : ℕ). n ∷ []) c.spawned.ensures.stays) (ap (λ (n : ℕ). n ∷ []) c.spawned.ensures.runs))

pub returns-in_default-kind : goal.returns-in_default-kind
returns-in_default-kind t c =
    let u = c.args.turn.now in
    finish_row_lem (standing u c.requires c.told-pairs c.fits-pairs) c.row_summary-body.ensures
    (rw (c.try_from.ensures, c.in-Ok.is, last_one c.in-Loop.is c.in_default-kind.not-Loop c.in_default-kind.not-Async))
    (by_parts refl c.waited.ensures.stays (ap (λ (n : ℕ). n ∷ []) c.waited.ensures.runs))

pub returns-in-Call : goal.returns-in-Call
returns-in-Call t c =
    let u = c.args.turn.now in
    call_row_lem (standing u c.requires c.told-pairs c.fits-pairs)
    (rw (c.try_from.ensures, c.in-Ok.is, c.in-Call.is)) c.called.ensures

pub returns-in_default : goal.returns-in_default
returns-in_default t c =
    let u = c.args.turn.now in
    absurd
    (kind_there ours (on u) u.recipe.admitted _ c.requires (rw (c.try_from.ensures, c.in_default.is)))
