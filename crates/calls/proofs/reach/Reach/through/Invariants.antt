-- The first sets so far are joined with the set that was read before the first turn.
use Rattle.std.proofs.Common.{◌*◌, length}
use Rattle.std.specs.Int.Bits.{bit_or}
use Rattle.labels.specs.Words.{bit}
use Rattle.labels.proofs.InPlace.{Changing}
use Rattle.calls.proofs.reach.Reach.through.Given as goal

abbrev pub invariant-loop-set : goal.invariant-loop-set
invariant-loop-set l =
    let n = length l.initial.set-items in
    Changing n (λ g set. bit_or set (bit set l.k.0 * l.via)) l.initial.set-items n l.set-items l.set-index
