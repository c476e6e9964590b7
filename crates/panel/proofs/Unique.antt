-- Two replies and later contents that meet a public function's contract are equal, since each contract is an equation. `Post` is the contract itself; for the
-- entries on records, `Analyses`, `Reads`, `Lists` and `Writes` are what it states.
-- Assumes nothing.
use mathlib.Core.Path.{◌≡◌, refl, sym, ◌∙◌}
use mathlib.Core.List.{List}
use Prim.Native.Nat.{ℕ}
use lib.ListN.{length}
use seplogic.Ra.Ura.{Ura}
use base.Logic.{SProp}
use prog.Memory.{Memory}
use prog.Routine.{Routine}
use types.Logic.{Logic}
use contract.Monad.{Fun, fact}
use Rattle.numbers.specs.General.{laid}
use Rattle.numbers.specs.Sizes.{ours}
use Rattle.recipe.specs.declared.Row.{Row}
use Rattle.recipe.specs.Records.{table_of_rows}
use Rattle.analysis.specs.Replies.{analysed, matrix_after}
use Rattle.listing.specs.Replies.{listed, matrix_listed, bytes_listed}
use Rattle.table.specs.Reading.{rows_of, roots_of, reply_of}
use Rattle.records.specs.Records.{read_records}
use Rattle.writer.specs.Replies.{written, bytes_written}
use Rattle.panel.specs.Codes.{reply_code, read_code}
use Rattle.panel.proofs.bushkalote_analyse.Reads.{Post as analyse-post}
use Rattle.panel.proofs.bushkalote_read_sheet.Reads.{Post as read-sheet-post}
use Rattle.panel.proofs.bushkalote_list_pairs.Reads.{Post as list-pairs-post}
use Rattle.panel.proofs.bushkalote_write_sheet.Reads.{Post as write-sheet-post}
use Rattle.panel.specs.contracts.bushkalote_analyse_rows as analysing
use Rattle.panel.specs.contracts.bushkalote_read_rows as reading
use Rattle.panel.specs.contracts.bushkalote_list_rows as listing
use Rattle.panel.specs.contracts.bushkalote_write_rows as writing

pub analyse_determined :
    (κs a r r' s s' : _) → analyse-post κs a r s → analyse-post κs a r' s' → (r ≡ r') × (s.1.1.1.1.0.now ≡ s'.1.1.1.1.0.now)
analyse_determined κs a r r' s s' p q = (p.0 ∙ sym q.0, p.1 ∙ sym q.1)

pub read_sheet_determined :
    (κs a r r' s s' : _) → read-sheet-post κs a r s → read-sheet-post κs a r' s'
    → (r ≡ r') × (s.1.0.now ≡ s'.1.0.now) × (s.1.1.0.now ≡ s'.1.1.0.now)
    × (s.1.1.1.0.now ≡ s'.1.1.1.0.now) × (s.1.1.1.1.0.now ≡ s'.1.1.1.1.0.now)
read_sheet_determined κs a r r' s s' p q =
    (p.0 ∙ sym q.0, p.1.0 ∙ sym q.1.0, p.1.1.0 ∙ sym q.1.1.0, p.1.1.1.0 ∙ sym q.1.1.1.0, p.1.1.1.1 ∙ sym q.1.1.1.1)

pub list_pairs_determined :
    (κs a r r' s s' : _) → list-pairs-post κs a r s → list-pairs-post κs a r' s'
    → (r ≡ r') × (s.1.1.1.1.0.now ≡ s'.1.1.1.1.0.now) × (s.1.1.1.1.1.0.now ≡ s'.1.1.1.1.1.0.now)
list_pairs_determined κs a r r' s s' p q = (p.0 ∙ sym q.0, p.1.0 ∙ sym q.1.0, p.1.1 ∙ sym q.1.1)

pub write_sheet_determined :
    (κs a r r' s s' : _) → write-sheet-post κs a r s → write-sheet-post κs a r' s' → (r ≡ r') × (s.1.1.1.1.0.now ≡ s'.1.1.1.1.0.now)
write_sheet_determined κs a r r' s s' p q = (p.0 ∙ sym q.0, p.1 ∙ sym q.1)

-- The number n for these rows, these roots and the matrix m, and the matrix m' after it.
abbrev pub Analyses : List Row → List ℕ → List ℕ → ℕ → List ℕ → Type 0
Analyses rows roots m n m' =
    let t = table_of_rows rows roots in (n ≡ reply_code (analysed ours t (length m))) × (m' ≡ matrix_after ours t m)

-- The number n for a sheet's bytes, these rows and these roots, and the rows and the roots after it.
abbrev pub Reads : List ℕ → List Row → List ℕ → ℕ → List Row → List ℕ → Type 0
Reads bytes rows roots n rows' roots' =
    let w = read_records ours bytes rows roots in
    (n ≡ read_code (reply_of w)) × (rows' ≡ laid (rows_of w) rows) × (roots' ≡ laid (roots_of w) roots)

-- The number n for these rows, these roots, the matrix m and the bytes b, and the matrix m' and the bytes b' after it.
abbrev pub Lists : List Row → List ℕ → List ℕ → List ℕ → ℕ → List ℕ → List ℕ → Type 0
Lists rows roots m b n m' b' =
    let t = table_of_rows rows roots in
    (n ≡ reply_code (listed ours t (length m) (length b)))
    × (m' ≡ matrix_listed ours t m (length b))
    × (b' ≡ bytes_listed ours t (length m) b)

-- The number n for these rows, these roots and the bytes b, and the bytes b' after it.
abbrev pub Writes : List Row → List ℕ → List ℕ → ℕ → List ℕ → Type 0
Writes rows roots b n b' =
    let t = table_of_rows rows roots in (n ≡ reply_code (written ours t (length b))) × (b' ≡ bytes_written ours t b)

-- They are the clauses of the contracts, word for word.
module _ {M : Type 1} {𝓤 : Ura M} (𝓛 : Logic 𝓤) (mem : Memory → SProp 𝓤) (run : Routine → Fun 𝓤) where
  pub analyse_rows_states :
      (κs a n e : _)
      → (analysing.clauses 𝓛 mem run κs a).ensures tt n e ≡ fact 𝓤 (Analyses a.0.now a.1.0.now a.1.1.0.now n e.1.1.0.now)
  analyse_rows_states κs a n e = refl

  pub read_rows_states :
      (κs a n e : _)
      → (reading.clauses 𝓛 mem run κs a).ensures tt n e ≡ fact 𝓤 (Reads a.0.now a.1.0.now a.1.1.0.now n e.1.0.now e.1.1.0.now)
  read_rows_states κs a n e = refl

  pub list_rows_states :
      (κs a n e : _)
      → (listing.clauses 𝓛 mem run κs a).ensures tt n e ≡ fact 𝓤
      (Lists a.0.now a.1.0.now a.1.1.0.now a.1.1.1.0.now n e.1.1.0.now e.1.1.1.0.now)
  list_rows_states κs a n e = refl

  pub write_rows_states :
      (κs a n e : _)
      → (writing.clauses 𝓛 mem run κs a).ensures tt n e ≡ fact 𝓤 (Writes a.0.now a.1.0.now a.1.1.0.now n e.1.1.0.now)
  write_rows_states κs a n e = refl

pub analyse_rows_determined :
    (rows : List Row) (roots m : List ℕ) (n n' : ℕ) (s s' : List ℕ) → Analyses rows roots m n s → Analyses rows roots m n' s' → (n ≡ n') × (s ≡ s')
analyse_rows_determined rows roots m n n' s s' p q = (p.0 ∙ sym q.0, p.1 ∙ sym q.1)

pub read_rows_determined :
    (bytes : List ℕ) (rows : List Row) (roots : List ℕ) (n n' : ℕ) (s s' : List Row) (t t' : List ℕ) → Reads bytes rows roots n s t
    → Reads bytes rows roots n' s' t' → (n ≡ n') × (s ≡ s') × (t ≡ t')
read_rows_determined bytes rows roots n n' s s' t t' p q = (p.0 ∙ sym q.0, p.1 ∙ sym q.1, p.2 ∙ sym q.2)

pub list_rows_determined :
    (rows : List Row) (roots m b : List ℕ) (n n' : ℕ) (s s' t t' : List ℕ) → Lists rows roots m b n s t → Lists rows roots m b n' s' t' → (n ≡ n') × (s ≡ s')
    × (t ≡ t')
list_rows_determined rows roots m b n n' s s' t t' p q = (p.0 ∙ sym q.0, p.1 ∙ sym q.1, p.2 ∙ sym q.2)

pub write_rows_determined :
    (rows : List Row) (roots b : List ℕ) (n n' : ℕ) (s s' : List ℕ) → Writes rows roots b n s → Writes rows roots b n' s' → (n ≡ n') × (s ≡ s')
write_rows_determined rows roots b n n' s s' p q = (p.0 ∙ sym q.0, p.1 ∙ sym q.1)
