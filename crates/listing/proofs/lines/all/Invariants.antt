-- The lines of the labels before this one are told.
use Rattle.numbers.specs.General.{in_turn}
use Rattle.listing.specs.Listing.{lines}
use Rattle.listing.proofs.PairLaws.{row_of}
use Rattle.listing.proofs.lines.all.Given as goal

abbrev pub invariant-loop-i : goal.invariant-loop-i
invariant-loop-i g l = g.S.Sink.takes l.fn.out (in_turn l.i (λ k. lines (row_of l.matrix k))) l.out
