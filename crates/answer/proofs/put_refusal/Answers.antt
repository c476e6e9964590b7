-- The three fields of the line are put one behind the other, and its two numbers have 32 bits.
use Rattle.answer.proofs.LineLaws.{put_refused, refused_short}
use Rattle.answer.proofs.put_refusal.Goals as goal

pub returns-clause-line : goal.returns-clause-line
returns-clause-line c =
    rw (← c.number-number.ensures, ← c.place-place.ensures)
    (put_refused c.number-number.result c.place-place.result c.put_text-at.ensures c.put_number-at.ensures c.put_number.ensures)

pub returns-clause-short : goal.returns-clause-short
returns-clause-short c =
    rw (← c.number-number.ensures, ← c.place-place.ensures) (refused_short c.number-number.result c.place-place.result c.number-number.type_inv c.place-place.type_inv)
