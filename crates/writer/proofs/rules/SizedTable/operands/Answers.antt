-- The search finds the first row with an operand that is too long, or none.
use Rattle.std.proofs.Common.{arith}
use Rattle.numbers.specs.Sizes.{ours}
use Rattle.recipe.specs.Tables.{lists_of}
use Rattle.writer.specs.Rules.{operand_rule}
use Rattle.writer.proofs.Judging.{refuses_found, passes_all, long_found, long_none}
use Rattle.writer.proofs.rules.SizedTable.operands.Goals as goal

pub overflow_cast-result : goal.overflow_cast-result
overflow_cast-result c =
    let t = lists_of c.args.self.now.table in
    omega (arith, long_found ours t c.args.self.now.sized c.in-Some.ensures)

pub returns-in-Some : goal.returns-in-Some
returns-in-Some c =
    let t = lists_of c.args.self.now.table in
    refuses_found (operand_rule t) (long_found ours t c.args.self.now.sized c.in-Some.ensures)

pub returns-in-None : goal.returns-in-None
returns-in-None c =
    let t = lists_of c.args.self.now.table in
    passes_all (operand_rule t) (long_none ours t c.args.self.now.sized c.in-None.ensures)
