-- The rows so far have right operands.
use Rattle.numbers.specs.General.{Nowhere}
use Rattle.numbers.specs.Sizes.{ours}
use Rattle.recipe.specs.Rules.{operand_wrong}
use Rattle.recipe.specs.Tables.{lists_of}
use Rattle.recipe.proofs.rules.SizedTable.operands.Given as goal

abbrev pub invariant-loop-i : goal.invariant-loop-i
invariant-loop-i l = Nowhere l.i (operand_wrong ours (lists_of l.self.table))
