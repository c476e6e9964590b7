-- What the verdict exact says where a listing, or the answer to a sheet, gives it.
use Rattle.std.specs.Prelude.{◌≡◌, ◌↔◌, false, List, ◌++◌, ℕ}
use Rattle.numbers.specs.Sizes.{ours, row_ceiling}
use Rattle.calculus.specs.Syntax.{Program, body}
use Rattle.calculus.specs.Enabled.{MayMeet}
use Rattle.calculus.specs.Calls.{NoSelfCall}
use Rattle.recipe.specs.Records.{table_of_rows}
use Rattle.recipe.specs.Rules.{IsAdmitted}
use Rattle.recipe.specs.Statements.{program_of}
use Rattle.recipe.specs.declared.Row.{Row}
use Rattle.table.specs.Reading.{table}
use Rattle.sheet.specs.Reading.{read_sheet}
use Rattle.listing.specs.Listing.{opening}
use Rattle.demands.specs.Demanded.{PairSet}

-- The bytes begin with an opening line that says exact.
pub record SaysExact (b : List ℕ) : Type 0 where
  pub count : ℕ
  pub rounds : ℕ
  pub rest : List ℕ
  pub bytes : b ≡ opening count rounds false ++ rest

-- The bytes b' that were listed with the words m' say exact exactly where no procedure that main can reach, main included, can reach itself; and where they
-- say it, any two labels that the words pair are enabled at two different places in some reached state.
pub record ExactMeans (p : Program) (m' b' : List ℕ) : Type 0 where
  pub exactly : SaysExact b' ↔ NoSelfCall p
  pub met : SaysExact b' → (i j : ℕ) → PairSet m' i j → MayMeet p (body p 0) i j

-- The sheet spells an admitted recipe in which no procedure that main can reach, main included, can reach itself.
pub record ExactRecipe (sheet : List ℕ) : Type 0 where
  pub rows : List Row
  pub roots : List ℕ
  pub read : read_sheet ours row_ceiling ours.procs sheet ≡ table rows roots
  pub ok : IsAdmitted ours (table_of_rows rows roots)
  pub acyclic : NoSelfCall (program_of (table_of_rows rows roots))
