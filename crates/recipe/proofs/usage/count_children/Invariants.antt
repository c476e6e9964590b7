-- The counters hold the uses by the rows so far.
use Rattle.recipe.specs.Rules.{child_uses}
use Rattle.recipe.specs.Tables.{lists_of}
use Rattle.recipe.specs.Inner.{Counts}
use Rattle.recipe.proofs.usage.count_children.Given as goal

abbrev pub invariant-loop-i : goal.invariant-loop-i
invariant-loop-i l = Counts l.counts (child_uses (lists_of l.sized.table) l.i)
