-- Where the word has a bit of the number the shift loses nothing and is its power of two; else the set is empty.
use Rattle.std.proofs.Common.{◌∷◌, [], ℕ, sym, ap, ◌∙◌, arith}
use native.Mathlib.Nat.{one-mul}
use lib.Dec.{lit<}
use lib.Pow.{shl_exact}
use Rattle.numbers.specs.Sizes.{ours, word_bits}
use Rattle.labels.specs.Sets.{single}
use Rattle.labels.proofs.SetLaws.{single_beyond}
use Rattle.labels.proofs.OneWord.{single_one}
use Rattle.labels.proofs.Member.alone.Goals as goal

pub returns-then-l-lt-BITS : goal.returns-then-l-lt-BITS
returns-then-l-lt-BITS g c =
    let l = c.number-l.result in
    ap (λ (x : ℕ). x ∷ []) (shl_exact 1 l word_bits (lit< tt) (omega arith) ∙ one-mul _)
    ∙ sym (single_one l c.if-l-lt-BITS.true)
    ∙ ap (single ours.words) c.number-l.ensures

pub returns-else-l-lt-BITS : goal.returns-else-l-lt-BITS
returns-else-l-lt-BITS g c =
    sym (single_beyond ours.words c.number-l.result c.if-l-lt-BITS.false) ∙ ap (single ours.words) c.number-l.ensures
