-- Two results and later contents that meet a public function's contract are equal, since each contract is an equation. `Post` is the contract itself.
-- Assumes nothing.
use mathlib.Core.Path.{◌≡◌, sym, ap, ◌∙◌}
use mathlib.Core.List.{List}
use Prim.Native.Nat.{◌≤◌}
use native.Mathlib.Omega.{arith}
use Rattle.numbers.specs.Sizes.{row_ceiling}
use Rattle.std.specs.Prelude.{Result, Ok, Err}
use Rattle.numbers.specs.declared.Refusal.{Refusal}
use Rattle.recipe.specs.Tables.{lists_of}
use Rattle.recipe.specs.declared.Row.{Row}
use Rattle.table.specs.Columns.{Copied}
use Rattle.table.specs.declared.Held.{Held}
use Rattle.table.specs.declared.columns.Columns.{Columns}
use Rattle.table.proofs.SameColumns.{same_columns}
use Rattle.table.proofs.Room.within_ceilings.Reads.{Post as within-ceilings-post}
use Rattle.table.proofs.Held.empty.Reads.{Post as empty-post}
use Rattle.table.proofs.store_rows.Reads.{Post as store-rows-post}
use Rattle.table.proofs.store.Reads.{Post as store-post}
use Rattle.table.proofs.columns.Columns.of.Reads.{Post as of-post}
use Rattle.table.proofs.columns.Columns.first_of.Reads.{Post as first-of-post}
use Rattle.table.proofs.columns.Columns.table.Reads.{Post as table-post}

pub within_ceilings_determined :
    (κs a r r' s s' : _) → within-ceilings-post κs a r s → within-ceilings-post κs a r' s' → (r.rows ≡ r'.rows) × (r.roots ≡ r'.roots)
within_ceilings_determined κs a r r' s s' p q = (p.0 ∙ sym q.0, p.1 ∙ sym q.1)

pub empty_determined : (κs a r r' s s' : _) → empty-post κs a r s → empty-post κs a r' s' → r ≡ r'
empty_determined κs a r r' s s' p q = p ∙ sym q

-- So its rows and its roots are one each.
pub no_rows_determined : (κs a r r' s s' : _) → empty-post κs a r s → empty-post κs a r' s' → r.rows ≡ r'.rows
no_rows_determined κs a r r' s s' p q = ap (λ (h : Held). h.rows) (empty_determined κs a r r' s s' p q)

pub no_roots_determined : (κs a r r' s s' : _) → empty-post κs a r s → empty-post κs a r' s' → r.roots ≡ r'.roots
no_roots_determined κs a r r' s s' p q = ap (λ (h : Held). h.roots) (empty_determined κs a r r' s s' p q)

pub store_rows_determined :
    (κs a r r' s s' : _) → store-rows-post κs a r s → store-rows-post κs a r' s'
    → (s.1.1.0.now ≡ s'.1.1.0.now) × (s.1.1.1.0.now ≡ s'.1.1.1.0.now) × (s.1.1.1.1.0.now ≡ s'.1.1.1.1.0.now)
store_rows_determined κs a r r' s s' p q = (p.0 ∙ sym q.0, p.1 ∙ sym q.1, p.2 ∙ sym q.2)

-- For every type of elements, so for records and for numbers.
pub store_determined : (T b c d e κs a r r' s s' : _) → store-post T b c d e κs a r s → store-post T b c d e κs a r' s' → s.1.1.0.now ≡ s'.1.1.0.now
store_determined T b c d e κs a r r' s s' p q = p ∙ sym q

-- So records are laid over records, and roots over roots, in one way.
pub copy_out_determined : (T b c d e κs a r r' s s' : _) → store-post T b c d e κs a r s → store-post T b c d e κs a r' s' → s.1.1.0.now ≡ s'.1.1.0.now
copy_out_determined = store_determined

pub store_roots_determined : (T b c d e κs a r r' s s' : _) → store-post T b c d e κs a r s → store-post T b c d e κs a r' s' → s.1.1.0.now ≡ s'.1.1.0.now
store_roots_determined = store_determined

-- The result of copying these rows is one.
copied_once : (rows : List Row) (r r' : Result Columns Refusal) → Copied rows r → Copied rows r' → r ≡ r'
copied_once rows (Ok c) (Ok c') p q =
    ap (λ (d : Columns). Ok d) (same_columns c c' (p.0 ∙ sym q.0) (p.1 ∙ sym q.1) (p.2 ∙ sym q.2) (p.3 ∙ sym q.3))
copied_once rows (Ok c) (Err why) p q = let fits : c.rows ≤ row_ceiling = c.fits in absurd (omega arith)
copied_once rows (Err why) (Ok c) p q = let fits : c.rows ≤ row_ceiling = c.fits in absurd (omega arith)
copied_once rows (Err why) (Err why') p q = cc

pub of_determined : (κs a r r' s s' : _) → of-post κs a r s → of-post κs a r' s' → r ≡ r'
of_determined κs a r r' s s' p q = copied_once a.0.now r r' p q

-- The columns of `first_of`.
pub copy_in_determined : (κs a r r' s s' : _) → first-of-post κs a r s → first-of-post κs a r' s' → r ≡ r'
copy_in_determined κs a r r' s s' p q = p ∙ sym q

-- The table of columns is one as far as lists go: where its slices lie is no matter of the contract.
pub table_determined : (κs a r r' s s' : _) → table-post κs a r s → table-post κs a r' s' → lists_of r ≡ lists_of r'
table_determined κs a r r' s s' p q = p ∙ sym q
