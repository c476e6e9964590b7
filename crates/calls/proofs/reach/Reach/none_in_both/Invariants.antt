-- No procedure so far is in both.
use Rattle.std.proofs.Common.{◌≡◌, true}
use Rattle.calls.specs.Inner.{none_in_both}
use Rattle.calls.proofs.reach.Reach.none_in_both.Given as goal

abbrev pub invariant-loop-f : goal.invariant-loop-f
invariant-loop-f l = none_in_both l.f l.self.sets ≡ true
