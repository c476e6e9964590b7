-- The closed sets are those of the procedures reached, so main's set and each one's own tell.
use Rattle.std.proofs.Common.{ℕ, List, replicate, sym, ap, ap₂, ◌∙◌, not, arith}
use Rattle.std.proofs.lemmas.List.{length-replicate}
use Rattle.numbers.specs.Sizes.{ours}
use Rattle.recipe.specs.Statements.{program_of}
use Rattle.recipe.specs.Tables.{lists_of, procs}
use Rattle.recipe.proofs.Admitted.{sizes_right_lem}
use Rattle.recipe.proofs.Readings.{program_length}
use Rattle.calls.specs.Inner.{closed_below, none_in_both}
use Rattle.calls.specs.declared.reach.Reach.{Reach}
use Rattle.calls.proofs.SetLaws.{sets_wide}
use Rattle.calls.proofs.reach.reaches_itself.Goals as goal

pub returns : goal.returns
returns c =
    let t = lists_of c.args.recipe.now.table in
    let sizes = sizes_right_lem ours t c.args.recipe.now.admitted in
    ap not
    (c.none_in_both.ensures
    ∙ ap (λ (r : Reach). none_in_both r.procs.number r.sets) c.close.ensures
    ∙ ap₂ (λ (n : ℕ) (sets : List ℕ). none_in_both n (closed_below n n sets)) c.direct-reach.ensures.0 c.direct-reach.ensures.1)
    ∙ sets_wide (program_of t) (procs t) (replicate 64 0) (omega (arith, length-replicate {A = ℕ} 64 0, sizes.few_procs_lem)) (sym (program_length t))
