-- Each call is for a row with a smaller number.
use Rattle.calls.proofs.reach.+row_calls.Given as goal

abbrev pub decreases-row_calls : goal.decreases-row_calls
decreases-row_calls l = l.row.0
