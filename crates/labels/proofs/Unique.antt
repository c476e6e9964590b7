-- Two replies and later contents that meet a public function's contract are equal, since each contract is an equation. `Post` is the contract itself.
-- Assumes nothing.
use mathlib.Core.Path.{◌≡◌, sym, ◌∙◌}
use Rattle.labels.proofs.LabelMember.number.Reads.{Post as label_number_post}
use Rattle.labels.proofs.ProcNumberMember.number.Reads.{Post as proc_number_post}
use Rattle.labels.proofs.Member.alone.Reads.{Post as alone-post}
use Rattle.labels.proofs.Member.is_in.Reads.{Post as is-in-post}
use Rattle.labels.proofs.join.Reads.{Post as join-post}

pub label_number_determined : (κs a r r' s s' : _) → label_number_post κs a r s → label_number_post κs a r' s' → r ≡ r'
label_number_determined κs a r r' s s' p q = p ∙ sym q

pub proc_number_determined : (κs a r r' s s' : _) → proc_number_post κs a r s → proc_number_post κs a r' s' → r ≡ r'
proc_number_determined κs a r r' s s' p q = p ∙ sym q

-- For every kind of member, so for labels and for procedures.
pub alone_determined : (T b c d e f g κs a r r' s s' : _) → alone-post T b c d e f g κs a r s → alone-post T b c d e f g κs a r' s' → r ≡ r'
alone_determined T b c d e f g κs a r r' s s' p q = cc

pub is_in_determined : (T b c d e f g κs a r r' s s' : _) → is-in-post T b c d e f g κs a r s → is-in-post T b c d e f g κs a r' s' → r ≡ r'
is_in_determined T b c d e f g κs a r r' s s' p q = p ∙ sym q

pub join_determined : (κs a r r' s s' : _) → join-post κs a r s → join-post κs a r' s' → r ≡ r'
join_determined κs a r r' s s' p q = cc
