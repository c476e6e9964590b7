-- After k turns the first k bytes stand at the place.
use Rattle.text.proofs.PutLaws.{Copying}
use Rattle.text.proofs.put_bytes.Given as goal

abbrev pub invariant-loop-b : goal.invariant-loop-b
invariant-loop-b l = Copying l.text l.fn.bytes l.at l.bytes l.next l.b-index
