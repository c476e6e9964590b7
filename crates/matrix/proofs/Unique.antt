-- Two replies and later contents that meet a public function's contract are equal, since each contract is an equation. `Post` is the contract itself.
-- Assumes nothing.
use mathlib.Core.Path.{◌≡◌, sym, ◌∙◌}
use Rattle.matrix.proofs.cross.Reads.{Post as cross-post}
use Rattle.matrix.proofs.merge.Reads.{Post as merge-post}
use Rattle.matrix.proofs.copy.Reads.{Post as copy-post}
use Rattle.matrix.proofs.clear.Reads.{Post as clear-post}
use Rattle.matrix.proofs.count.Reads.{Post as count_post}

pub cross_determined : (κs a r r' s s' : _) → cross-post κs a r s → cross-post κs a r' s' → s.0.now ≡ s'.0.now
cross_determined κs a r r' s s' p q = p ∙ sym q

pub merge_determined : (κs a r r' s s' : _) → merge-post κs a r s → merge-post κs a r' s' → s.0.now ≡ s'.0.now
merge_determined κs a r r' s s' p q = p ∙ sym q

pub copy_determined : (κs a r r' s s' : _) → copy-post κs a r s → copy-post κs a r' s' → s.0.now ≡ s'.0.now
copy_determined κs a r r' s s' p q = p ∙ sym q

pub clear_determined : (κs a r r' s s' : _) → clear-post κs a r s → clear-post κs a r' s' → s.0.now ≡ s'.0.now
clear_determined κs a r r' s s' p q = p ∙ sym q

pub count_determined : (κs a r r' s s' : _) → count_post κs a r s → count_post κs a r' s' → r ≡ r'
count_determined κs a r r' s s' p q = p ∙ sym q
