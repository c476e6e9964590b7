-- Two replies and later contents that meet a public function's contract are equal, since each contract is an equation. `Answers`, `Lists` and `Reads` are
-- what the contracts state.
-- Assumes nothing.
use mathlib.Core.Path.{◌≡◌, refl, sym, ◌∙◌}
use mathlib.Core.List.{List}
use Prim.Native.Nat.{ℕ}
use seplogic.Ra.Ura.{Ura}
use base.Logic.{SProp}
use prog.Memory.{Memory}
use prog.Routine.{Routine}
use types.Logic.{Logic}
use contract.Monad.{Fun, fact}
use Rattle.std.specs.Prelude.{Result}
use Rattle.numbers.specs.Sizes.{Size, ours}
use Rattle.numbers.specs.declared.Refusal.{Refusal}
use Rattle.recipe.specs.declared.Row.{Row}
use Rattle.table.specs.declared.Room.{Room}
use Rattle.records.specs.Inner.{Answers, Lists, Reads}
use Rattle.records.specs.contracts.analyse_rows as analysis
use Rattle.records.specs.contracts.list_rows as listing
use Rattle.records.specs.contracts.read_rows as reader

-- They are the clauses of the contracts, word for word.
module _ {M : Type 1} {𝓤 : Ura M} (𝓛 : Logic 𝓤) (mem : Memory → SProp 𝓤) (run : Routine → Fun 𝓤) where
  pub analyse_rows_states :
      (κs a r e : _)
      → (analysis.clauses 𝓛 mem run κs a).ensures tt r e
      ≡ fact 𝓤 (Answers ours a.0.now a.1.0.now a.1.1.0.now r e.1.1.0.now)
  analyse_rows_states κs a r e = refl

  pub list_rows_states :
      (κs a r e : _)
      → (listing.clauses 𝓛 mem run κs a).ensures tt r e
      ≡ fact 𝓤 (Lists ours a.0.now a.1.0.now a.1.1.0.now a.1.1.1.0.now r e.1.1.0.now e.1.1.1.0.now)
  list_rows_states κs a r e = refl

  pub read_rows_states :
      (κs a r e : _)
      → (reader.clauses 𝓛 mem run κs a).ensures tt r e
      ≡ fact 𝓤 (Reads ours a.0.now a.1.0.now a.1.1.0.now r e.1.0.now e.1.1.0.now)
  read_rows_states κs a r e = refl

pub analyse_rows_determined :
    (z : Size) (rows : List Row) (roots m : List ℕ) (r r' : Result ℕ Refusal) (s s' : List ℕ)
    → Answers z rows roots m r s → Answers z rows roots m r' s' → (r ≡ r') × (s ≡ s')
analyse_rows_determined z rows roots m r r' s s' p q = (p.0 ∙ sym q.0, p.1 ∙ sym q.1)

pub list_rows_determined :
    (z : Size) (rows : List Row) (roots m b : List ℕ) (r r' : Result ℕ Refusal) (s s' t t' : List ℕ)
    → Lists z rows roots m b r s t → Lists z rows roots m b r' s' t' → (r ≡ r') × (s ≡ s') × (t ≡ t')
list_rows_determined z rows roots m b r r' s s' t t' p q = (p.0 ∙ sym q.0, p.1 ∙ sym q.1, p.2 ∙ sym q.2)

pub read_rows_determined :
    (z : Size) (bytes roots : List ℕ) (rows : List Row) (r r' : Result Room Refusal) (s s' : List Row) (t t' : List ℕ)
    → Reads z bytes rows roots r s t → Reads z bytes rows roots r' s' t' → (r ≡ r') × (s ≡ s') × (t ≡ t')
read_rows_determined z bytes roots rows r r' s s' t t' p q = (p.0 ∙ sym q.0, p.1 ∙ sym q.1, p.2 ∙ sym q.2)
