-- Each child row's number is below the row's own.
use Rattle.analysis.proofs.rows.+row_summary.Given as goal

abbrev pub decreases-row_summary : goal.decreases-row_summary
decreases-row_summary l = l.row.0
