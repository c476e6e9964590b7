-- Two verdicts that meet the contract of `verdict_on` are equal, since it is an equation. `Post` is the contract itself.
-- Assumes nothing.
use mathlib.Core.Path.{◌≡◌, sym, ◌∙◌}
use Rattle.calls.proofs.verdict_on.Reads.{Post as verdict-on-post}

pub verdict_on_determined : (κs a r r' s s' : _) → verdict-on-post κs a r s → verdict-on-post κs a r' s' → r ≡ r'
verdict_on_determined κs a r r' s s' p q = p ∙ sym q
