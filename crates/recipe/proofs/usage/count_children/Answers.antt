-- One more row counts the uses by its children, which lie below the ceiling.
use Rattle.std.proofs.Common.{sym, arith}
use Rattle.numbers.specs.General.{sum_below}
use Rattle.numbers.proofs.SumLaws.{sum_next}
use Rattle.recipe.proofs.Counters.{counts_same}
use Rattle.recipe.proofs.usage.count_children.Goals as goal

pub loop-i-init : goal.loop-i-init
unfolding sum_below
loop-i-init c = c.requires.none

pub count_row-requires : goal.count_row-requires
count_row-requires c i u = c.requires.below c.loop-i.i i (omega arith) u

pub loop-i-preserved : goal.loop-i-preserved
loop-i-preserved c = counts_same c.count_row.new.counts _ _ (λ i. sym (sum_next _ _)) (c.count_row.ensures _ c.loop-i.invariant)
