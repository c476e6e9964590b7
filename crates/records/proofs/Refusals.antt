-- A refusal leaves every lent record and root as it was, since the reading that is refused has no rows and no roots.
-- Assumes nothing.
use mathlib.Core.Path.{◌≡◌, sym, ap, ◌∙◌}
use mathlib.Core.List.{List}
use Prim.Native.Nat.{ℕ}
use Rattle.std.specs.Prelude.{Err}
use Rattle.numbers.specs.General.{laid}
use Rattle.numbers.specs.Sizes.{Size}
use Rattle.numbers.specs.declared.Refusal.{Refusal}
use Rattle.recipe.specs.declared.Row.{Row}
use Rattle.table.specs.Reading.{Reading, rows_of, roots_of}
use Rattle.table.proofs.Replies.{nothing_of}
use Rattle.records.specs.Records.{read_records}
use Rattle.records.specs.Inner.{Reads}

pub refusal_stores_nothing :
    (z : Size) (bytes roots roots' : List ℕ) (rows rows' : List Row) (why : Refusal) → Reads z bytes rows roots (Err why) rows' roots'
    → (rows' ≡ rows) × (roots' ≡ roots)
refusal_stores_nothing z bytes roots roots' rows rows' why p =
    let none = nothing_of (read_records z bytes rows roots) why (sym p.0) in
    (p.1 ∙ ap (λ (w : Reading). laid (rows_of w) rows) none, p.2 ∙ ap (λ (w : Reading). laid (roots_of w) roots) none)
