-- The contract says what is written.
use Rattle.std.proofs.Common.{refl}
use Rattle.table.specs.Inner.{no_rows, no_roots}
use Rattle.table.proofs.Held.empty.Goals as goal

pub returns : goal.returns
unfolding no_rows no_roots
returns c = refl
