-- Two replies and later contents that meet a public function's contract are equal, since each contract is an equation. `write-sheet-post` is the contract of
-- the writer from slices itself, `Writes` what that of the writer from records states.
-- Assumes nothing.
use mathlib.Core.Path.{◌≡◌, refl, sym, ◌∙◌}
use mathlib.Core.List.{List}
use Prim.Native.Nat.{ℕ}
use seplogic.Ra.Ura.{Ura}
use base.Logic.{SProp}
use prog.Memory.{Memory}
use prog.Routine.{Routine}
use types.Logic.{Logic}
use contract.Monad.{Fun, fact}
use Rattle.std.specs.Prelude.{Result}
use Rattle.numbers.specs.Sizes.{Size, ours}
use Rattle.numbers.specs.declared.Refusal.{Refusal}
use Rattle.recipe.specs.Records.{table_of_rows}
use Rattle.recipe.specs.declared.Row.{Row}
use Rattle.writer.specs.Inner.{Writes}
use Rattle.writer.specs.contracts.write_rows as rows-writer
use Rattle.writer.proofs.write_sheet.Reads.{Post as write-sheet-post}

pub write_sheet_determined :
    (κs a r r' s s' : _) → write-sheet-post κs a r s → write-sheet-post κs a r' s'
    → (r ≡ r') × (s.1.0.now ≡ s'.1.0.now)
write_sheet_determined κs a r r' s s' p q = (p.0 ∙ sym q.0, p.1 ∙ sym q.1)

-- It is the clause of the contract, word for word.
module _ {M : Type 1} {𝓤 : Ura M} (𝓛 : Logic 𝓤) (mem : Memory → SProp 𝓤) (run : Routine → Fun 𝓤) where
  pub write_rows_states :
      (κs a r e : _)
      → (rows-writer.clauses 𝓛 mem run κs a).ensures tt r e
      ≡ fact 𝓤 (Writes ours (table_of_rows a.0.now a.1.0.now) a.1.1.0.now r e.1.1.0.now)
  write_rows_states κs a r e = refl

pub write_rows_determined :
    (z : Size) (rows : List Row) (roots b : List ℕ) (r r' : Result ℕ Refusal) (s s' : List ℕ)
    → Writes z (table_of_rows rows roots) b r s → Writes z (table_of_rows rows roots) b r' s' → (r ≡ r') × (s ≡ s')
write_rows_determined z rows roots b r r' s s' p q = (p.0 ∙ sym q.0, p.1 ∙ sym q.1)
