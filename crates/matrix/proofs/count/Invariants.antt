-- The sum is that of the words before this one, each masked from its own label on.
use Rattle.std.proofs.Common.{◌≡◌}
use Rattle.matrix.proofs.CountLaws.{pairs_below}
use Rattle.matrix.proofs.count.Given as goal

abbrev pub invariant-loop-i : goal.invariant-loop-i
invariant-loop-i l = l.sum ≡ pairs_below l.matrix l.i
