-- The search finds the first root that is too long, or none.
use Rattle.numbers.proofs.PositionLaws.{above_found, above_none}
use Rattle.recipe.specs.Tables.{lists_of}
use Rattle.writer.specs.Rules.{root_rule}
use Rattle.writer.proofs.Judging.{refuses_found, passes_all}
use Rattle.writer.proofs.rules.SizedTable.roots.Goals as goal

pub returns-in-Some : goal.returns-in-Some
returns-in-Some c = let t = lists_of c.args.self.now.table in refuses_found (root_rule t) (above_found 9999 t.roots c.in-Some.ensures)

pub returns-in-None : goal.returns-in-None
returns-in-None c = let t = lists_of c.args.self.now.table in passes_all (root_rule t) (above_none 9999 t.roots c.in-None.ensures)
