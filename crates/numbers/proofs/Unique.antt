-- Each contract leaves one reply: it is an equation for the reply.
-- Assumes nothing.
use mathlib.Core.Path.{◌≡◌, sym, ◌∙◌}
use Rattle.numbers.proofs.Refusal.number.Reads.{Post as number_post}
use Rattle.numbers.proofs.Refusal.place.Reads.{Post as place-post}
use Rattle.numbers.proofs.least.Reads.{Post as least-post}
use Rattle.numbers.proofs.first_above.Reads.{Post as first-above-post}

pub number_determined : (κs a r r' s s' : _) → number_post κs a r s → number_post κs a r' s' → r ≡ r'
number_determined κs a r r' s s' p q = p ∙ sym q

pub place_determined : (κs a r r' s s' : _) → place-post κs a r s → place-post κs a r' s' → r ≡ r'
place_determined κs a r r' s s' p q = p ∙ sym q

pub least_determined : (κs a r r' s s' : _) → least-post κs a r s → least-post κs a r' s' → r ≡ r'
least_determined κs a r r' s s' p q = p ∙ sym q

-- For every type of numbers, so for bytes and for numbers of two bytes.
pub first_above_determined :
    (T b c d e f g h i κs a r r' s s' : _) → first-above-post T b c d e f g h i κs a r s → first-above-post T b c d e f g h i κs a r' s' → r ≡ r'
first_above_determined T b c d e f g h i κs a r r' s s' p q = p ∙ sym q

-- Bytes are one such type.
pub first_byte_above_determined :
    (T b c d e f g h i κs a r r' s s' : _) → first-above-post T b c d e f g h i κs a r s → first-above-post T b c d e f g h i κs a r' s' → r ≡ r'
first_byte_above_determined = first_above_determined
