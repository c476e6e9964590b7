-- A table that keeps the writer's rules is one whose records and roots fields can hold, few enough and whole: each rule is one of these facts.
-- Assumes nothing.
use mathlib.Core.Bool.{false, not, ◌||◌}
use mathlib.Core.List.{List, [], ◌∷◌}
use mathlib.Core.Path.{◌≡◌, refl, sym, subst}
use Prim.Native.Nat.{ℕ, zero, suc, ◌≤◌, ◌<◌}
use native.Mathlib.Nat.{le_refl, le_of_suc-le-suc, not-suc-le-zero}
use native.Mathlib.Omega.{arith}
use borrow.Author.Tests.{ltb-false, not-false, le-ltb, le-leb, eq-eqb}
use lib.ListN.{length, get_or, length-map}
use Rattle.std.proofs.lemmas.Bool.{or_parts, or_from}
use Rattle.numbers.specs.General.{in_turn}
use Rattle.numbers.specs.Sizes.{Size, row_ceiling}
use Rattle.recipe.specs.Offences.{KeepsRules}
use Rattle.recipe.specs.Records.{table_of_rows}
use Rattle.recipe.specs.Tables.{Table, rows, procs, kind_at, x_at, y_at, root_at}
use Rattle.recipe.specs.declared.Row.{Row}
use Rattle.recipe.proofs.Offences.{keeps_of}
use Rattle.sheet.specs.Form.{Short, ShortRow, Every}
use Rattle.sheet.proofs.Outcomes.{every_more}
use Rattle.table.specs.Inner.{blank}
use Rattle.writer.specs.Inner.{IsWritable}
use Rattle.writer.specs.Rules.{sizes_writable, too_long, table_rules}
use Rattle.writer.specs.Sheets.{row_at, records_of}
use Rattle.writer.proofs.Judging.{sized, sizes_pass}
use Rattle.writer.proofs.Records.{row_again}

-- ---- every element, and every place

every_at : {A : Type 0} (P : A → Type 0) (l : List A) (d : A) → Every P l → (i : ℕ) → i < length l → P (get_or l i d)
every_at P [] d e i h = absurd (not-suc-le-zero h)
every_at P (a ∷ l) d e zero h = e.0
every_at P (a ∷ l) d e (suc i) h = every_at P l d e.1 i (le_of_suc-le-suc h)

at_every : {A : Type 0} (P : A → Type 0) (l : List A) (d : A) → ((i : ℕ) → i < length l → P (get_or l i d)) → Every P l
at_every P [] d e = tt
at_every P (a ∷ l) d e = (e zero (omega arith), at_every P l d (λ i h. e (suc i) (omega arith)))

every_in_turn : {A : Type 0} (P : A → Type 0) (f : ℕ → A) (n : ℕ) → ((i : ℕ) → i < n → P (f i)) → Every P (in_turn n (λ i. f i ∷ []))
unfolding in_turn
every_in_turn P f zero e = tt
every_in_turn P f (suc n) e =
    every_more P (in_turn n (λ i. f i ∷ [])) (f n) (every_in_turn P f n (λ i h. e i (omega arith))) (e n (le_refl (suc n)))

-- ---- the rules as facts

-- What the rules say of a table, the room for its sheet aside.
pub record Kept (z : Size) (t : Table) : Type 0 where
  pub few_rows : rows t ≤ row_ceiling
  pub few_procs : procs t ≤ z.procs
  pub xs_whole : length t.xs ≡ rows t
  pub ys_whole : length t.ys ≡ rows t
  pub rows_short : Every ShortRow (records_of t)
  pub roots_short : Every Short t.roots

module _ (z : Size) (t : Table) where
  pub kept : KeepsRules (table_rules z t) → Kept z t
  kept k =
      let sizes = sized z (rows t) (length t.xs) (length t.ys) (procs t) (not-false (sizes_pass z t) (k.0 0 (omega arith))) in
      record {
        few_rows = sizes.few_rows_lem;
        few_procs = sizes.few_procs_lem;
        xs_whole = sizes.xs_match;
        ys_whole = sizes.ys_match;
        rows_short = every_in_turn ShortRow (row_at t) (rows t) (λ i h.
            let short = or_parts (too_long (x_at t i)) (too_long (y_at t i)) (k.1.1.0 i h) in
            record {
              kind = ltb-false 6 (kind_at t i) (k.1.0 i h);
              x = ltb-false 9999 (x_at t i) short.0;
              y = ltb-false 9999 (y_at t i) short.1;
            });
        roots_short = at_every Short t.roots 0 (λ f h. ltb-false 9999 (root_at t f) (k.1.1.1.0 f h));
      }

-- What a table keeps that the writer's judge admits.
pub writable_keeps : (z : Size) (t : Table) → IsWritable z t → Kept z t
writable_keeps z t ok = kept z t (keeps_of (table_rules z t) ok)

-- The table of so few short records and roots keeps the rules.
module _ (z : Size) (records : List Row) (roots : List ℕ) where
  abbrev made : Table
  made = table_of_rows records roots

  pub records_keep :
      length records ≤ row_ceiling → length roots ≤ z.procs → Every ShortRow records → Every Short roots → KeepsRules (table_rules z made)
  unfolding sizes_writable
  records_keep few fewer rows_short roots_short = (
    λ i h. sizes_right_lem,
    (
      λ i h. le-ltb 6 (kind_at made i) (short i h).kind,
      (λ i h. operands_short i h, (λ f h. le-ltb 9999 (root_at made f) (every_at Short roots 0 roots_short f h), tt)),
    ),
  )
    where
      short : (i : ℕ) → i < rows made → ShortRow (row_at made i)
      short i h =
          subst ShortRow (sym (row_again records roots i))
          (every_at ShortRow records blank rows_short i (omega (arith, length-map records (λ (row : Row). row.kind))))

      operands_short : (i : ℕ) → i < rows made → too_long (x_at made i) || too_long (y_at made i) ≡ false
      operands_short i h =
          or_from (too_long (x_at made i)) (too_long (y_at made i)) (le-ltb 9999 (x_at made i) (short i h).x) (le-ltb 9999 (y_at made i) (short i h).y)

      sizes_right_lem : not (sizes_writable z (rows made) (length made.xs) (length made.ys) (procs made)) ≡ false
      sizes_right_lem =
          rw (
            length-map records (λ (row : Row). row.kind),
            length-map records (λ (row : Row). row.x),
            length-map records (λ (row : Row). row.y),
          )
          (simp (le-leb _ _ few, le-leb _ _ fewer, eq-eqb (length records) (length records) refl))
