-- The crossing marks, the join hands back the labels, and the pairs of both are those marked before.
use Rattle.std.proofs.Common.{sym, ap, ◌∙◌}
use Rattle.numbers.specs.Sizes.{ours}
use Rattle.matrix.specs.Matrix.{crossed}
use Rattle.analysis.proofs.Into.{self_into}
use Rattle.analysis.proofs.Shape.{by_parts}
use Rattle.analysis.proofs.rows.sequence.Goals as goal

pub returns : goal.returns
returns c =
    by_parts (c.cross.ensures ∙ ap (crossed ours.words _ _) (sym (self_into ours.words _)))
    c.joined_with.ensures.stays c.joined_with.ensures.runs
