-- The search finds the first unknown kind, or none.
use Rattle.numbers.proofs.PositionLaws.{above_found, above_none}
use Rattle.recipe.specs.Rules.{kind_rule}
use Rattle.recipe.specs.Tables.{lists_of}
use Rattle.writer.proofs.Judging.{refuses_found, passes_all}
use Rattle.writer.proofs.rules.SizedTable.kinds.Goals as goal

pub returns-in-Some : goal.returns-in-Some
returns-in-Some c = let t = lists_of c.args.self.now.table in refuses_found (kind_rule t) (above_found 6 t.kinds c.in-Some.ensures)

pub returns-in-None : goal.returns-in-None
returns-in-None c = let t = lists_of c.args.self.now.table in passes_all (kind_rule t) (above_none 6 t.kinds c.in-None.ensures)
