-- Each arm gives the test of its kind, and a number that no arm names is no kind.
use Rattle.std.proofs.Common.{arith}
use Rattle.recipe.specs.Rules.{operands_right}
use Rattle.recipe.proofs.Operands.{unlisted_unknown}
use Rattle.recipe.proofs.rules.operands_right.Goals as goal

pub returns-in-7-to-255 : goal.returns-in-7-to-255
unfolding operands_right
returns-in-7-to-255 c =
    simp (unlisted_unknown c.args.kind (λ q. omega arith) (λ q. omega arith) (λ q. omega arith) (λ q. omega arith)
    (λ q. omega arith) (λ q. omega arith) (λ q. omega arith))
