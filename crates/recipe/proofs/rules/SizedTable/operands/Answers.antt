-- The loop stops_at at the first row whose operands are not right, or has passed all.
use Rattle.std.proofs.Common.{not, sym, ap, ◌∙◌, arith}
use Rattle.recipe.proofs.Judging.{stops_at, passes}
use Rattle.recipe.proofs.rules.SizedTable.operands.Goals as goal

pub returns-then-not-operands_right : goal.returns-then-not-operands_right
returns-then-not-operands_right c =
    stops_at _ c.loop-i.i (omega arith) c.loop-i.invariant (ap not (sym c.operands_right.ensures ∙ c.if-not-operands_right.true))

pub returns : goal.returns
returns c = passes _ (λ k l. c.loop-i.invariant k (omega arith))
