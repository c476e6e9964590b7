-- The sets reach through each procedure below k.
use Rattle.std.proofs.Common.{◌≡◌}
use Rattle.calls.specs.Inner.{closed_below}
use Rattle.calls.proofs.reach.Reach.close.Given as goal

abbrev pub invariant-loop-k : goal.invariant-loop-k
invariant-loop-k l = l.self ≡ record l.fn.self { sets = closed_below l.fn.self.procs.number l.k l.fn.self.sets }
