-- The test is that of the definition.
use Rattle.std.proofs.Common.{sym}
use Rattle.text.proofs.FieldLaws.{none_after_zero, three_after_another}
use Rattle.text.proofs.digits_after.Goals as goal

pub returns-then-b-eq48 : goal.returns-then-b-eq48
returns-then-b-eq48 c = sym (none_after_zero c.args.b c.if-b-eq48.true)

pub returns-else-b-eq48 : goal.returns-else-b-eq48
returns-else-b-eq48 c = sym (three_after_another c.args.b c.if-b-eq48.false)
