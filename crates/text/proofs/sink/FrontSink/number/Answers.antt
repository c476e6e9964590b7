-- The number is put into the same loan, at the place where the next field belongs.
use Rattle.std.proofs.Common.{refl}
use Rattle.text.proofs.sink.FrontSink.number.Goals as goal

pub returns : goal.returns
returns c = (refl, c.put_number-self.ensures)
