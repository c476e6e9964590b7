-- Two results and later contents that meet an export's contract are equal, since each contract is an equation. `Post` is the contract itself.
-- Assumes nothing.
use mathlib.Core.Path.{◌≡◌, sym, ◌∙◌}
use Rattle.panel_c.proofs.bushkalote_analyse.Reads.{Post as analyse-post}
use Rattle.panel_c.proofs.bushkalote_read_sheet.Reads.{Post as read-sheet-post}
use Rattle.panel_c.proofs.bushkalote_list_pairs.Reads.{Post as list-pairs-post}
use Rattle.panel_c.proofs.bushkalote_write_sheet.Reads.{Post as write-sheet-post}
use Rattle.panel_c.proofs.bushkalote_analyse_rows.Reads.{Post as analyse-rows-post}
use Rattle.panel_c.proofs.bushkalote_read_rows.Reads.{Post as read-rows-post}
use Rattle.panel_c.proofs.bushkalote_list_rows.Reads.{Post as list-rows-post}
use Rattle.panel_c.proofs.bushkalote_write_rows.Reads.{Post as write-rows-post}

pub analyse_determined :
    (κs a r r' s s' : _) → analyse-post κs a r s → analyse-post κs a r' s' → (r ≡ r') × (s.1.1.1.1.0.now ≡ s'.1.1.1.1.0.now)
analyse_determined κs a r r' s s' p q = (p.0 ∙ sym q.0, p.1 ∙ sym q.1)

pub read_sheet_determined :
    (κs a r r' s s' : _) → read-sheet-post κs a r s → read-sheet-post κs a r' s'
    → (r ≡ r') × (s.1.0.now ≡ s'.1.0.now) × (s.1.1.0.now ≡ s'.1.1.0.now)
    × (s.1.1.1.0.now ≡ s'.1.1.1.0.now) × (s.1.1.1.1.0.now ≡ s'.1.1.1.1.0.now)
read_sheet_determined κs a r r' s s' p q =
    (p.0 ∙ sym q.0, p.1.0 ∙ sym q.1.0, p.1.1.0 ∙ sym q.1.1.0, p.1.1.1.0 ∙ sym q.1.1.1.0, p.1.1.1.1 ∙ sym q.1.1.1.1)

pub list_pairs_determined :
    (κs a r r' s s' : _) → list-pairs-post κs a r s → list-pairs-post κs a r' s'
    → (r ≡ r') × (s.1.1.1.1.0.now ≡ s'.1.1.1.1.0.now) × (s.1.1.1.1.1.0.now ≡ s'.1.1.1.1.1.0.now)
list_pairs_determined κs a r r' s s' p q = (p.0 ∙ sym q.0, p.1.0 ∙ sym q.1.0, p.1.1 ∙ sym q.1.1)

pub write_sheet_determined :
    (κs a r r' s s' : _) → write-sheet-post κs a r s → write-sheet-post κs a r' s' → (r ≡ r') × (s.1.1.1.1.0.now ≡ s'.1.1.1.1.0.now)
write_sheet_determined κs a r r' s s' p q = (p.0 ∙ sym q.0, p.1 ∙ sym q.1)

pub analyse_rows_determined :
    (κs a r r' s s' : _) → analyse-rows-post κs a r s → analyse-rows-post κs a r' s' → (r ≡ r') × (s.1.1.0.now ≡ s'.1.1.0.now)
analyse_rows_determined κs a r r' s s' p q = (p.0 ∙ sym q.0, p.1 ∙ sym q.1)

pub read_rows_determined :
    (κs a r r' s s' : _) → read-rows-post κs a r s → read-rows-post κs a r' s'
    → (r ≡ r') × (s.1.0.now ≡ s'.1.0.now) × (s.1.1.0.now ≡ s'.1.1.0.now)
read_rows_determined κs a r r' s s' p q = (p.0 ∙ sym q.0, p.1 ∙ sym q.1, p.2 ∙ sym q.2)

pub list_rows_determined :
    (κs a r r' s s' : _) → list-rows-post κs a r s → list-rows-post κs a r' s'
    → (r ≡ r') × (s.1.1.0.now ≡ s'.1.1.0.now) × (s.1.1.1.0.now ≡ s'.1.1.1.0.now)
list_rows_determined κs a r r' s s' p q = (p.0 ∙ sym q.0, p.1 ∙ sym q.1, p.2 ∙ sym q.2)

pub write_rows_determined :
    (κs a r r' s s' : _) → write-rows-post κs a r s → write-rows-post κs a r' s' → (r ≡ r') × (s.1.1.0.now ≡ s'.1.1.0.now)
write_rows_determined κs a r r' s s' p q = (p.0 ∙ sym q.0, p.1 ∙ sym q.1)
