-- A turn puts the next byte behind those that stand already.
use Rattle.text.proofs.PutLaws.{copy_goes_on}
use Rattle.text.proofs.put_bytes.Goals as goal

pub loop-b-preserved : goal.loop-b-preserved
loop-b-preserved c = copy_goes_on c.loop-b.invariant c.loop-b-test.true c.put_byte-next.ensures
