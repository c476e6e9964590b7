-- The search finds the first unknown kind, or none.
use Rattle.std.proofs.Common.{sym, ◌∙◌, arith}
use Rattle.recipe.specs.Tables.{lists_of}
use Rattle.recipe.specs.Rules.{kind_rule}
use Rattle.numbers.proofs.PositionLaws.{above_found, above_none}
use Rattle.recipe.proofs.Judging.{refused_at, passed_on, all_passed}
use Rattle.recipe.proofs.rules.SizedTable.kinds.Goals as goal

pub returns-in-Some : goal.returns-in-Some
returns-in-Some c =
    let found = above_found 6 c.args.self.now.table.kinds.now c.in-Some.ensures in
    sym (refused_at (kind_rule (lists_of c.args.self.now.table)) _ c.in-Some.i found.1 found.0)

pub returns-in-None : goal.returns-in-None
returns-in-None c =
    let all = above_none 6 c.args.self.now.table.kinds.now c.in-None.ensures in
    sym (passed_on (kind_rule (lists_of c.args.self.now.table)) _ _ all (omega arith) ∙ all_passed)
