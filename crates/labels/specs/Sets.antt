-- A set of labels is a list of w words, label l at bit l mod 64 of word l / 64. The code has those of our size.
use Rattle.std.specs.Prelude.{List, ℕ, ◌/◌, ◌%◌, ◌^◌, get_or, set, replicate}
use Rattle.std.specs.Int.Bits.{bit_or}
use Rattle.numbers.specs.Sizes.{word_bits}
use Rattle.labels.specs.Words.{bit, changed}

-- 1 if label l is in the set, else 0.
unfoldable pub member : List ℕ → ℕ → ℕ
member s l = bit (get_or s (l / word_bits) 0) (l % word_bits)

-- The set of no label.
abbrev pub none : ℕ → List ℕ
none w = replicate w 0

-- The set of label l alone, and of none where l is not below the ceiling.
unfoldable pub single : ℕ → ℕ → List ℕ
single w l = set (none w) (l / word_bits) (2 ^ (l % word_bits))

-- The first n words of a, each joined with b's: the labels of either. What lies beyond stays.
unfoldable pub joined : ℕ → List ℕ → List ℕ → List ℕ
joined n a b = changed n (λ k x. bit_or x (get_or b k 0)) a

-- The union of two sets of w words.
abbrev pub union : ℕ → List ℕ → List ℕ → List ℕ
union w a b = joined w a b
