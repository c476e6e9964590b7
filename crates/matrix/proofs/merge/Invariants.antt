-- The words before this one are joined with the other matrix's.
use Rattle.std.proofs.Common.{length, get_or}
use Rattle.std.specs.Int.Bits.{bit_or}
use Rattle.labels.proofs.InPlace.{Changing}
use Rattle.matrix.proofs.merge.Given as goal

abbrev pub invariant-loop-i : goal.invariant-loop-i
invariant-loop-i l =
    let n = length l.initial.word-items in
    Changing n (λ k x. bit_or x (get_or l.other k 0)) l.initial.word-items n l.word-items l.i
