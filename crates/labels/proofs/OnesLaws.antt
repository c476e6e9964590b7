-- The ones of a word are the sum of its bits: by halving, one bit at a time.
-- Assumes nothing.
use mathlib.Core.Path.{◌≡◌, sym, ap, ap₂, ◌∙◌}
use Prim.Native.Nat.{ℕ, zero, suc, ◌+◌, ◌/◌, ◌^◌, ◌<◌}
use lib.Arith.{lt-one}
use lib.Count.{ones, ones_step}
use Rattle.numbers.specs.General.{sum_below}
use Rattle.numbers.proofs.SumLaws.{sum_alike, sum_first}
use Rattle.labels.specs.Words.{bit}
use Rattle.labels.proofs.BitLaws.{bit_first, bit_next, half_below}

pub ones_are_bits : (k x : ℕ) → x < 2 ^ k → ones x ≡ sum_below k (bit x)
unfolding sum_below ones
ones_are_bits zero x h = ap ones (lt-one h)
ones_are_bits (suc k) x h =
    ones_step x
    ∙ ap₂ ◌+◌ (sym (bit_first x))
    (ones_are_bits k (x / 2) (half_below k x h) ∙ sum_alike k (bit (x / 2)) (λ i. bit x (suc i)) (λ i l. sym (bit_next x i)))
    ∙ sym (sum_first k (bit x))
