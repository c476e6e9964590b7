-- Two replies and later contents that meet a public function's contract are equal, since each contract is an equation. `Post` is the contract itself.
-- Assumes nothing.
use mathlib.Core.Path.{◌≡◌, sym, ap, ◌∙◌}
use Rattle.std.specs.Prelude.{Err}
use Rattle.numbers.specs.Sizes.{ours}
use Rattle.numbers.specs.declared.Refusal.{Refusal}
use Rattle.table.specs.Inner.{held_of}
use Rattle.table.specs.Reading.{refused}
use Rattle.sheet.specs.Reading.{read_sheet}
use Rattle.sheet.proofs.hold_sheet.Reads.{Post as hold-sheet-post}
use Rattle.sheet.proofs.read_sheet.Reads.{Post as read-sheet-post}

pub hold_sheet_determined : (κs a r r' s s' : _) → hold-sheet-post κs a r s → hold-sheet-post κs a r' s' → r ≡ r'
hold_sheet_determined κs a r r' s s' p q = p ∙ sym q

-- What is held of a sheet that is refused is the refusal.
pub refusal_determined :
    (why : Refusal) (κs a r r' s s' : _) → hold-sheet-post κs a r s → hold-sheet-post κs a r' s'
    → read_sheet ours a.1.0.rows a.1.0.roots a.0.now ≡ refused why → (r ≡ Err why) × (r ≡ r')
refusal_determined why κs a r r' s s' p q e = (p ∙ ap held_of e, p ∙ sym q)

pub read_sheet_determined :
    (κs a r r' s s' : _) → read-sheet-post κs a r s → read-sheet-post κs a r' s'
    → (r ≡ r') × (s.1.0.now ≡ s'.1.0.now)
    × (s.1.1.0.now ≡ s'.1.1.0.now)
    × (s.1.1.1.0.now ≡ s'.1.1.1.0.now)
    × (s.1.1.1.1.0.now ≡ s'.1.1.1.1.0.now)
read_sheet_determined κs a r r' s s' p q = (
  p.0 ∙ sym q.0,
  p.1.0 ∙ sym q.1.0,
  p.1.1.0 ∙ sym q.1.1.0,
  p.1.1.1.0 ∙ sym q.1.1.1.0,
  p.1.1.1.1 ∙ sym q.1.1.1.1,
)

-- What a reply reports: how many rows and roots were stored, or the refusal.
pub reported_determined : (κs a r r' s s' : _) → read-sheet-post κs a r s → read-sheet-post κs a r' s' → r ≡ r'
reported_determined κs a r r' s s' p q = p.0 ∙ sym q.0
