-- The roots so far are rows.
use Rattle.numbers.specs.General.{Nowhere}
use Rattle.recipe.specs.Rules.{root_missing}
use Rattle.recipe.specs.Tables.{lists_of, rows, root_at}
use Rattle.recipe.proofs.rules.SizedTable.roots.Given as goal

abbrev pub invariant-loop-f : goal.invariant-loop-f
invariant-loop-f l = let t = lists_of l.self.table in Nowhere l.f (λ k. root_missing (rows t) (root_at t k))
