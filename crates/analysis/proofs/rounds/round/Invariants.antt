-- The summaries before this one are those of the bodies, and the rest is as it was.
use Rattle.numbers.specs.Sizes.{ours}
use Rattle.recipe.specs.Statements.{program_of}
use Rattle.recipe.specs.Tables.{lists_of}
use Rattle.analysis.specs.Inner.{body_words}
use Rattle.analysis.proofs.RoundLaws.{Rounding}
use Rattle.analysis.proofs.rounds.round.Given as goal

abbrev pub invariant-loop-f : goal.invariant-loop-f
invariant-loop-f l =
    Rounding (body_words ours.words (program_of (lists_of l.turn.recipe.table)) l.turn.held.now) l.fn.new l.new l.f
