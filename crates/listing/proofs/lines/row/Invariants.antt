-- The lines of the pairs before this one are told; below its own label a label has no pair.
use Rattle.std.proofs.Common.{[], ◌∷◌}
use Rattle.numbers.specs.General.{in_turn}
use Rattle.listing.specs.Pairs.{pair_at}
use Rattle.listing.specs.Listing.{lines}
use Rattle.listing.proofs.lines.row.Given as goal

abbrev pub invariant-loop-j : goal.invariant-loop-j
invariant-loop-j g l = g.S.Sink.takes l.fn.out (in_turn l.j (λ k. lines (pair_at (l.partners ∷ []) l.i.0 k))) l.out
