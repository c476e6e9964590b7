-- Each turn of the loop answers one argument, so the arguments come to an end.
use Rattle.std.proofs.Common.{◌-◌}
use Rattle.report.proofs.answer_arguments.Given as goal

abbrev pub decreases-loop-argument : goal.decreases-loop-argument
decreases-loop-argument l = l.count - l.argument
