-- Rows and roots kept one by one at the front of arrays are what is held of the table that they make, since each store adds the next.
-- Assumes nothing.
use mathlib.Core.Path.{◌≡◌, refl, sym, ap, ◌∙◌}
use mathlib.Core.List.{List, [], ◌∷◌, ◌++◌, map}
use Prim.Native.Nat.{ℕ, suc, ◌≤◌, ◌<◌, min}
use native.Mathlib.Numerals.{add-one}
use native.Mathlib.Omega.{arith}
use lib.ListN.{length, get_or, set, take, drop, length-append, length-replicate, length-map}
use lib.Seq.{drop-cons, set_at, append_snoc, take-append_seam}
use Rattle.numbers.specs.General.{laid}
use Rattle.numbers.specs.Sizes.{ours, row_ceiling}
use Rattle.recipe.specs.declared.Row.{Row}
use Rattle.table.specs.Inner.{overlaid, zeros, blank, no_rows, no_roots, holding, column}
use Rattle.table.specs.declared.Held.{Held}
use Rattle.table.proofs.Overlaid.{overlaid_all, overlaid_front}

-- One element more at the front.
pub laid_next : {A : Type 0} (front old : List A) (x : A) (n : ℕ) → n ≡ length front → n < length old → set (laid front old) n x ≡ laid (front ++ (x ∷ [])) old
laid_next {A} front old x n e h =
    ap (λ (l : List A). set (front ++ l) n x) (drop-cons old (length front) x (omega arith))
    ∙ set_at front (get_or old (length front) x) (drop (suc (length front)) old) x n (sym e)
    ∙ sym (append_snoc front x (drop (suc (length front)) old))
    ∙ ap (λ (k : ℕ). (front ++ (x ∷ [])) ++ drop k old) (sym one_more)
  where
    one_more : length (front ++ (x ∷ [])) ≡ suc (length front)
    one_more = length-append front (x ∷ []) ∙ add-one (length front)

pub length_no_rows : length no_rows ≡ row_ceiling
unfolding no_rows
length_no_rows = length-replicate row_ceiling blank

pub length_no_roots : length no_roots ≡ ours.procs
unfolding no_roots
length_no_roots = length-replicate {A = ℕ} ours.procs 0

map_append : {A B : Type 0} (f : A → B) (s t : List A) → map f (s ++ t) ≡ map f s ++ map f t
map_append f [] t = refl
map_append f (x ∷ s) t = ap (◌∷◌ (f x)) (map_append f s t)

-- What is held, a column of it laid over old numbers: as much as was read, where there is room for that.
column_laid :
    {B : Type 0} (f : Row → B) (read : List Row) (old : List B) (n : ℕ) → n ≡ length read → n ≤ length old
    → overlaid n (map f (laid read no_rows)) old ≡ laid (map f read) old
column_laid {B} f read old n e h =
    ap (λ (l : List B). overlaid n l old) (map_append f read (drop (length read) no_rows))
    ∙ overlaid_front n (map f read) (map f (drop (length read) no_rows)) old (e ∙ sym (length-map read f)) h

-- What is held of a reading is laid where there is room for it.
module _ (rows : List Row) (roots : List ℕ) {h : Held} (held : h ≡ holding rows roots) where
  pub held_column :
      {B : Type 0} (f : Row → B) (old : List B) (places : ℕ) → length rows ≤ places → places ≤ length old
      → overlaid (min h.kept.rows places) (map f h.rows) old ≡ laid (map f rows) old
  held_column f old places fits room = rw held (column_laid f rows old (min (length rows) places) (omega arith) (omega arith))

  pub held_rows : (old : List Row) → length rows ≤ length old → overlaid h.kept.rows h.rows old ≡ laid rows old
  held_rows old fits = rw held (overlaid_front (length rows) rows (drop (length rows) no_rows) old refl fits)

  pub held_roots : (old : List ℕ) → length roots ≤ length old → overlaid h.kept.roots h.roots old ≡ laid roots old
  held_roots old fits = rw held (overlaid_front (length roots) roots (drop (length roots) no_roots) old refl fits)

-- A column begins with its numbers, where a table can have that many rows.
pub column_begins : (numbers : List ℕ) → length numbers ≤ row_ceiling → take (length numbers) (column numbers) ≡ numbers
unfolding zeros
column_begins numbers h =
    ap (take (length numbers)) (overlaid_all row_ceiling numbers (zeros row_ceiling) h (omega (arith, length-replicate {A = ℕ} row_ceiling 0)))
    ∙ take-append_seam numbers (drop (length numbers) (zeros row_ceiling))
