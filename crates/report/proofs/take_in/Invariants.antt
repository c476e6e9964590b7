-- What was read so far is no longer than the buffer, and each turn of the loop that goes on reads at least one byte.
use Rattle.std.proofs.Common.{length, ◌-◌, ◌≤◌}
use Rattle.report.proofs.take_in.Given as goal

abbrev pub invariant-loop-done : goal.invariant-loop-done
invariant-loop-done g l = l.done ≤ length l.buffer

abbrev pub decreases-loop-done : goal.decreases-loop-done
decreases-loop-done g l = length l.initial.buffer - l.done
