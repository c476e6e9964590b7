-- What is left of the set is still to be joined; with each turn it has one label less.
use Rattle.std.proofs.Common.{◌≡◌}
use Rattle.numbers.specs.Sizes.{ours, matrix_words}
use Rattle.labels.specs.Words.{changed}
use Rattle.matrix.specs.Inner.{joining}
use Rattle.matrix.proofs.join_each.Given as goal

abbrev pub invariant-loop-rest : goal.invariant-loop-rest
invariant-loop-rest l =
    changed (matrix_words ours.words) (joining l.rest l.partners) l.matrix
    ≡ changed (matrix_words ours.words) (joining l.set l.partners) l.initial.matrix

abbrev pub decreases-loop-rest : goal.decreases-loop-rest
decreases-loop-rest l = l.rest
