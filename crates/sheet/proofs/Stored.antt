-- What the reader's contract comes to by the theorems on the form: a success has stored the table that the sheet spells, and a refusal nothing.
-- `Post` is the contract itself. Assumes nothing.
use mathlib.Core.Path.{◌≡◌, sym, ap, ◌∙◌}
use mathlib.Core.List.{List}
use Prim.Native.Nat.{ℕ}
use lib.ListN.{length}
use Rattle.std.specs.Prelude.{Ok, Err}
use Rattle.numbers.specs.General.{laid}
use Rattle.numbers.specs.Sizes.{ours}
use Rattle.numbers.specs.declared.Refusal.{Refusal}
use Rattle.recipe.specs.declared.Row.{Row}
use Rattle.sheet.specs.Form.{spell}
use Rattle.recipe.specs.Records.{kinds_of, xs_of, ys_of}
use Rattle.table.specs.Reading.{Reading, rows_of, roots_of}
use Rattle.table.specs.declared.Room.{Room}
use Rattle.table.proofs.Replies.{table_of_lem, nothing_of}
use Rattle.sheet.specs.Reading.{read_into}
use Rattle.sheet.proofs.SheetForms.{read_is_spelled}
use Rattle.sheet.proofs.read_sheet.Reads.{Post as read-sheet-post}

pub stored_is_spelled :
    (κs a r s : _) → read-sheet-post κs a r s → (k : Room) → r ≡ Ok k
    → (rows : List Row) × (roots : List ℕ) × (spell rows roots ≡ a.0.now) × (length rows ≡ k.rows) × (length roots ≡ k.roots)
    × (s.1.0.now ≡ laid (kinds_of rows) a.1.0.now)
    × (s.1.1.0.now ≡ laid (xs_of rows) a.1.1.0.now)
    × (s.1.1.1.0.now ≡ laid (ys_of rows) a.1.1.1.0.now)
    × (s.1.1.1.1.0.now ≡ laid roots a.1.1.1.1.0.now)
stored_is_spelled κs a r s p k e =
    let w = read_into ours a.0.now a.1.0.now a.1.1.0.now a.1.1.1.0.now a.1.1.1.1.0.now in
    let t = table_of_lem w k (sym p.0 ∙ e) in (
      rows_of w,
      roots_of w,
      (read_is_spelled ours _ _ a.0.now (rows_of w) (roots_of w) t.0).0,
      ap (λ (j : Room). j.rows) t.1,
      ap (λ (j : Room). j.roots) t.1,
      p.1.0,
      p.1.1.0,
      p.1.1.1.0,
      p.1.1.1.1,
    )

pub refusal_stores_nothing :
    (κs a r s : _) → read-sheet-post κs a r s → (why : Refusal) → r ≡ Err why
    → (s.1.0.now ≡ a.1.0.now)
    × (s.1.1.0.now ≡ a.1.1.0.now)
    × (s.1.1.1.0.now ≡ a.1.1.1.0.now)
    × (s.1.1.1.1.0.now ≡ a.1.1.1.1.0.now)
refusal_stores_nothing κs a r s p why e =
    let w = read_into ours a.0.now a.1.0.now a.1.1.0.now a.1.1.1.0.now a.1.1.1.1.0.now in
    let none = nothing_of w why (sym p.0 ∙ e) in (
      p.1.0 ∙ ap (λ (v : Reading). laid (kinds_of (rows_of v)) a.1.0.now) none,
      p.1.1.0 ∙ ap (λ (v : Reading). laid (xs_of (rows_of v)) a.1.1.0.now) none,
      p.1.1.1.0 ∙ ap (λ (v : Reading). laid (ys_of (rows_of v)) a.1.1.1.0.now) none,
      p.1.1.1.1 ∙ ap (λ (v : Reading). laid (roots_of v) a.1.1.1.1.0.now) none,
    )
