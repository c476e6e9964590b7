-- What the judge refuses is handed on and leaves what was lent; what it admits has the listing of an admitted table.
use Rattle.std.proofs.Common.{rules}
use Rattle.analysis.specs.Replies.{matrix_after}
use Rattle.listing.specs.Replies.{listed, matrix_listed, bytes_listed}
use Rattle.listing.proofs.ReplyLaws.{in_order}
use Rattle.listing.proofs.list_pairs.Goals as goal

pub returns-in_err-judge_with-clause-marks : goal.returns-in_err-judge_with-clause-marks
unfolding listed matrix_listed
returns-in_err-judge_with-clause-marks c = search (rules, in_order)

pub returns-in_err-judge_with-clause-text : goal.returns-in_err-judge_with-clause-text
unfolding listed bytes_listed
returns-in_err-judge_with-clause-text c = search (rules, in_order)

pub returns-clause-reply : goal.returns-clause-reply
unfolding listed
returns-clause-reply c = search (rules, in_order)

pub returns-clause-marks : goal.returns-clause-marks
unfolding listed matrix_listed matrix_after
returns-clause-marks c = search (rules, in_order)

pub returns-clause-text : goal.returns-clause-text
unfolding listed bytes_listed
returns-clause-text c = search (rules, in_order)
