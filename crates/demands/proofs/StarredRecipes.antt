-- The starred recipes come out as document 01 says, computed by the definitions; and each is the program of a table that is admitted. Recipe 12, which has no
-- star, is computed alike.
-- Assumes nothing.
use mathlib.Core.Path.{◌≡◌, refl}
use mathlib.Core.Bool.{true}
use mathlib.Core.List.{[], ◌∷◌, map}
use Rattle.std.specs.Prelude.{Ok}
use Rattle.numbers.specs.General.{every, lowest, sum_below}
use Rattle.numbers.specs.Sizes.{ours}
use Rattle.labels.specs.Words.{bit, changed, alike}
use Rattle.labels.specs.Sets.{member, single, joined}
use Rattle.matrix.specs.Matrix.{crossed}
use Rattle.recipe.specs.Rules.{sizes_right, operands_right, uses_by, judged_by, judged}
use Rattle.recipe.specs.Statements.{row_statement, statement_to, statement_at, program_of}
use Rattle.recipe.specs.Tables.{table_of}
use Rattle.calls.specs.Reached.{calling, reached}
use Rattle.calls.specs.Verdicts.{verdict_on}
use Rattle.calls.specs.declared.Verdict.TheVariants.{Exact}
use Rattle.analysis.specs.Rounds.{after}
use Rattle.analysis.specs.Replies.{rounds}
use Rattle.demands.specs.Starred.{Recipe, said_of, word_of, says_true, all_true, starred, starred_tables}

pub starred_recipes : all_true starred ≡ true
unfolding bit changed alike member single joined crossed lowest after every calling reached rounds word_of says_true all_true
starred_recipes = refl

-- each is the program of its table
pub starred_programs : map program_of starred_tables ≡ map said_of starred
unfolding row_statement statement_to statement_at
starred_programs = refl

-- and each table is admitted
pub starred_admitted : map (judged ours) starred_tables ≡ map (λ (r : Recipe). Ok tt) starred
unfolding sizes_right operands_right uses_by sum_below lowest judged_by judged
starred_admitted = refl

-- recipe 12, whose main does nothing and whose other procedure calls itself: main never reaches that one, so the verdict is exact
pub recipe_12_exact : verdict_on ours (table_of (0 ∷ 6 ∷ []) (0 ∷ 1 ∷ []) (0 ∷ 0 ∷ []) (0 ∷ 1 ∷ [])) ≡ Ok Exact
unfolding sizes_right operands_right uses_by sum_below lowest judged_by judged row_statement statement_to statement_at every calling reached verdict_on
recipe_12_exact = refl
