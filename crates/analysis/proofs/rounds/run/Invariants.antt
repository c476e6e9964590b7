-- The state holds round k, and no earlier round repeated.
use Rattle.std.proofs.Common.{◌*◌, ◌-◌}
use Rattle.numbers.specs.Sizes.{ours}
use Rattle.recipe.specs.Tables.{lists_of, procs}
use Rattle.analysis.proofs.GoingLaws.{Going}
use Rattle.analysis.proofs.rounds.run.Given as goal

abbrev pub invariant-loop-new : goal.invariant-loop-new
invariant-loop-new l = Going ours (lists_of l.recipe.table) l.held l.new l.rounds

abbrev pub decreases-loop-new : goal.decreases-loop-new
decreases-loop-new l = 3 * procs (lists_of l.recipe.table) - l.rounds
