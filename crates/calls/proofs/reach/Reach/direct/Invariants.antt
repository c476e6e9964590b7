-- The sets so far are the calls of the first bodies.
use Rattle.calculus.specs.Syntax.{body}
use Rattle.labels.proofs.InPlace.{Changing}
use Rattle.recipe.specs.Statements.{program_of}
use Rattle.recipe.specs.Tables.{lists_of, procs}
use Rattle.calls.specs.Inner.{calls_of}
use Rattle.calls.proofs.reach.Reach.direct.Given as goal

abbrev pub invariant-loop-f : goal.invariant-loop-f
invariant-loop-f l =
    let t = lists_of l.recipe.table in
    Changing (procs t) (λ g set. calls_of (body (program_of t) g)) l.initial.sets (procs t) l.sets l.f
