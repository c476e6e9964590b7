-- The verdict on a recipe: exact or wide, or the refusal.
use Rattle.std.specs.Prelude.{cond, Result, Ok, Err}
use Rattle.calculus.specs.Syntax.{Program}
use Rattle.numbers.specs.Sizes.{Size}
use Rattle.recipe.specs.Rules.{judged}
use Rattle.recipe.specs.Statements.{program_of}
use Rattle.recipe.specs.Tables.{Table}
use Rattle.numbers.specs.declared.Refusal.{Refusal}
use Rattle.calls.specs.Reached.{wide}
use Rattle.calls.specs.declared.Verdict.{Verdict}
use Rattle.calls.specs.declared.Verdict.TheVariants as verdict

-- The verdict on a program that was admitted, and the judge's refusal where it was not.
abbrev pub verdict_as : Program → Result Unit Refusal → Result Verdict Refusal
verdict_as p (Ok admitted) = Ok (cond (wide p) verdict.Wide verdict.Exact)
verdict_as p (Err r) = Err r

-- The verdict on a table, judged by the rules of a size.
unfoldable pub verdict_on : Size → Table → Result Verdict Refusal
verdict_on z t = verdict_as (program_of t) (judged z t)
