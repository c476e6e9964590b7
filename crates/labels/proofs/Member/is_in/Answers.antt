-- The mask of the member leaves its bit.
use Rattle.labels.proofs.OneWord.{in_alone}
use Rattle.labels.proofs.Member.is_in.Goals as goal

pub returns : goal.returns
returns g c = in_alone _ _ _ c.alone.ensures
