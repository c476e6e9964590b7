-- The loop stops_at at the first root that is no row, or has passed all.
use Rattle.std.proofs.Common.{arith}
use borrow.Author.Tests.{le-leb}
use Rattle.recipe.proofs.Judging.{stops_at, passes}
use Rattle.recipe.proofs.rules.SizedTable.roots.Goals as goal

pub returns-then-root-rows : goal.returns-then-root-rows
returns-then-root-rows c = stops_at _ c.loop-f.f (omega arith) c.loop-f.invariant (le-leb _ _ c.if-root-rows.true)

pub returns : goal.returns
returns c = passes _ (λ k l. c.loop-f.invariant k (omega arith))
