-- Two results and later contents that meet a public function's contract are equal, since each contract is an equation. `Post` is the contract itself.
-- Assumes nothing.
use mathlib.Core.Path.{◌≡◌, sym, ◌∙◌}
use Prim.Native.Nat.{◌^◌, ◌<◌}
use Rattle.text.proofs.text_at.Reads.{Post as text-at-post}
use Rattle.text.proofs.number_at.Reads.{Post as number-at-post}
use Rattle.text.proofs.digits.Reads.{Post as digits-post}
use Rattle.text.proofs.put_byte.Reads.{Post as put-byte-post}
use Rattle.text.proofs.put_number.Reads.{Post as put-number-post}
use Rattle.text.proofs.put_text.Reads.{Post as put-text-post}
use Rattle.text.proofs.sink.CountSink.text.Reads.{Post as count-text-post}
use Rattle.text.proofs.sink.CountSink.number.Reads.{Post as count-number-post}
use Rattle.text.proofs.sink.FrontSink.text.Reads.{Post as front-text-post}
use Rattle.text.proofs.sink.FrontSink.number.Reads.{Post as front-number-post}

pub text_at_determined : (κs a r r' s s' : _) → text-at-post κs a r s → text-at-post κs a r' s' → r ≡ r'
text_at_determined κs a r r' s s' p q = p ∙ sym q

pub number_at_determined : (κs a r r' s s' : _) → number-at-post κs a r s → number-at-post κs a r' s' → r ≡ r'
number_at_determined κs a r r' s s' p q = p ∙ sym q

pub digits_determined : (κs a r r' s s' : _) → digits-post κs a r s → digits-post κs a r' s' → r ≡ r'
digits_determined κs a r r' s s' p q = p.0 ∙ sym q.0

pub put_byte_determined :
    (κs a r r' s s' : _) → put-byte-post κs a r s → put-byte-post κs a r' s' → (r ≡ r') × (s.0.now ≡ s'.0.now)
put_byte_determined κs a r r' s s' p q = (p.place ∙ sym q.place, p.bytes ∙ sym q.bytes)

pub put_number_determined :
    (κs a r r' s s' : _) → put-number-post κs a r s → put-number-post κs a r' s' → (r ≡ r') × (s.0.now ≡ s'.0.now)
put_number_determined κs a r r' s s' p q = (p.place ∙ sym q.place, p.bytes ∙ sym q.bytes)

pub put_text_determined :
    (κs a r r' s s' : _) → put-text-post κs a r s → put-text-post κs a r' s' → (r ≡ r') × (s.0.now ≡ s'.0.now)
put_text_determined κs a r r' s s' p q = (p.place ∙ sym q.place, p.bytes ∙ sym q.bytes)

-- A count is a machine number.
pub count_text_determined :
    (κs a r r' s s' : _) → count-text-post κs a r s → count-text-post κs a r' s' → a.0.now.0 < 2 ^ 64 → s.0.now.0 ≡ s'.0.now.0
count_text_determined κs a r r' s s' p q h = p.more h ∙ sym (q.more h)

pub count_number_determined :
    (κs a r r' s s' : _) → count-number-post κs a r s → count-number-post κs a r' s' → a.0.now.0 < 2 ^ 64 → s.0.now.0 ≡ s'.0.now.0
count_number_determined κs a r r' s s' p q h = p.more h ∙ sym (q.more h)

-- The lent bytes, which stay the same loan, and the place of the next field.
pub front_text_determined :
    (κs a r r' s s' : _) → front-text-post κs a r s → front-text-post κs a r' s'
    → (s.0.now.bytes.now ≡ s'.0.now.bytes.now) × (s.0.now.at ≡ s'.0.now.at)
front_text_determined κs a r r' s s' p q = (p.1.bytes ∙ sym q.1.bytes, p.1.place ∙ sym q.1.place)

pub front_number_determined :
    (κs a r r' s s' : _) → front-number-post κs a r s → front-number-post κs a r' s'
    → (s.0.now.bytes.now ≡ s'.0.now.bytes.now) × (s.0.now.at ≡ s'.0.now.at)
front_number_determined κs a r r' s s' p q = (p.1.bytes ∙ sym q.1.bytes, p.1.place ∙ sym q.1.place)
