-- Each turn reads one digit, and what is left to read comes to the whole.
use Rattle.text.specs.Fields.{digits_at}
use Rattle.text.proofs.FieldLoops.{DigitsLeft}
use Rattle.text.proofs.digits_at.Given as goal

abbrev pub invariant-loop-i : goal.invariant-loop-i
invariant-loop-i l = DigitsLeft (digits_at l.stop l.most l.first l.bytes) l.bytes l.stop l.most l.n l.i
