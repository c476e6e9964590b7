-- Two replies and later contents that meet the contract are equal: the reply is an equation, and the bytes follow from it. `Post` is the contract itself.
-- Assumes nothing.
use mathlib.Core.Path.{◌≡◌, sym, ap, ◌∙◌}
use Rattle.listing.specs.Replies.{held_after}
use Rattle.answer.proofs.answer.Reads.{Post as answer-post}

pub answer_determined :
    (κs a r r' s s' : _) → answer-post κs a r s → answer-post κs a r' s' → (r ≡ r') × (s.1.0.now ≡ s'.1.0.now)
answer_determined κs a r r' s s' p q =
    let same = p.said ∙ sym q.said in (same, p.held ∙ ap (held_after _ _) same ∙ sym q.held)
