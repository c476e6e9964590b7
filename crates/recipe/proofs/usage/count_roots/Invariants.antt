-- The counters hold the uses as one of the roots so far besides.
use Rattle.recipe.specs.Rules.{root_uses}
use Rattle.recipe.specs.Tables.{lists_of}
use Rattle.recipe.specs.Inner.{Counted}
use Rattle.recipe.proofs.usage.count_roots.Given as goal

abbrev pub invariant-loop-root : goal.invariant-loop-root
invariant-loop-root l = Counted l.fn.counts l.counts (root_uses (lists_of l.table) l.root-index)
