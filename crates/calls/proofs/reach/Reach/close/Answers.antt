-- Before the first turn no procedure is reached through, and a turn reaches through one more.
use Rattle.std.proofs.Common.{ℕ, List, ap, ◌∙◌}
use Rattle.calls.specs.Inner.{through_also}
use Rattle.calls.specs.declared.reach.Reach.{Reach}
use Rattle.calls.proofs.SetLaws.{closed_none, closed_more}
use Rattle.calls.proofs.reach.Reach.close.Goals as goal

pub loop-k-init : goal.loop-k-init
loop-k-init c =
    let self = c.args.self.now in
    ap (λ (sets : List ℕ). record self { sets = sets }) (closed_none self.procs.number self.sets)

pub loop-k-preserved : goal.loop-k-preserved
loop-k-preserved c =
    let self = c.args.self.now in
    c.through.ensures
    ∙ ap (λ (r : Reach). record r { sets = through_also r.procs.number c.loop-k.k r.sets }) c.loop-k.invariant
    ∙ ap (λ (sets : List ℕ). record self { sets = sets }) (closed_more self.procs.number c.loop-k.k self.sets)
