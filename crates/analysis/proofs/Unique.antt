-- Two replies and later contents that meet a public function's contract are equal, since each contract is an equation. `Post` is the contract itself.
-- Assumes nothing.
use mathlib.Core.Path.{◌≡◌, sym, ◌∙◌}
use Rattle.analysis.proofs.analyse.Reads.{Post as analyse-post}

pub analyse_determined :
    (κs a r r' s s' : _) → analyse-post κs a r s → analyse-post κs a r' s'
    → (r ≡ r') × (s.1.0.now ≡ s'.1.0.now)
analyse_determined κs a r r' s s' p q = (p.0 ∙ sym q.0, p.1 ∙ sym q.1)
