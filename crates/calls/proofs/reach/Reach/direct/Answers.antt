-- A root's statement is the procedure's body, so a turn stores what the procedure's body calls.
use Rattle.std.proofs.Common.{ℕ, sym, ap, ◌∙◌, arith}
use Rattle.std.proofs.lemmas.List.{length-replicate}
use Rattle.labels.proofs.InPlace.{begins, goes_on_lem}
use Rattle.numbers.specs.Sizes.{ours}
use Rattle.recipe.specs.Tables.{lists_of}
use Rattle.recipe.proofs.Admitted.{root_row, sizes_right_lem}
use Rattle.recipe.proofs.Readings.{body_of_root}
use Rattle.calls.specs.Inner.{calls_of}
use Rattle.calls.proofs.reach.Reach.direct.Goals as goal

pub loop-f-init : goal.loop-f-init
loop-f-init c =
    begins (omega (arith, length-replicate {A = ℕ} 64 0, (sizes_right_lem ours (lists_of c.args.recipe.now.table) c.args.recipe.now.admitted).few_procs_lem))

pub row_calls-requires : goal.row_calls-requires
row_calls-requires c = root_row ours (lists_of c.args.recipe.now.table) c.args.recipe.now.admitted c.loop-f.f (omega arith)

pub loop-f-preserved : goal.loop-f-preserved
loop-f-preserved c =
    goes_on_lem c.loop-f.invariant (omega arith)
    (c.row_calls.ensures ∙ ap calls_of (sym (body_of_root (lists_of c.args.recipe.now.table) c.loop-f.f (omega arith))))
