-- Two replies and later contents that meet a public function's contract are equal, since each contract is an equation. `Post` is the contract itself.
-- Assumes nothing.
use mathlib.Core.Path.{◌≡◌, sym, ◌∙◌}
use Rattle.listing.proofs.list_pairs.Reads.{Post as list-pairs-post}

pub list_pairs_determined :
    (κs a r r' s s' : _) → list-pairs-post κs a r s → list-pairs-post κs a r' s'
    → (r ≡ r') × (s.1.0.now ≡ s'.1.0.now) × (s.1.1.0.now ≡ s'.1.1.0.now)
list_pairs_determined κs a r r' s s' p q = (p.0 ∙ sym q.0, p.1.0 ∙ sym q.1.0, p.1.1 ∙ sym q.1.1)
