-- Words and their bits: what a set of labels and a matrix of pairs are made of.
use Rattle.std.specs.Prelude.{Bool, List, [], ◌∷◌, ℕ, zero, suc, ◌/◌, ◌%◌, ◌^◌, ◌<◌, eqb, get_or}
use Rattle.numbers.specs.General.{every}
use Rattle.numbers.specs.Sizes.{word_bits}

-- Bit i of x, 1 or 0.
unfoldable pub bit : ℕ → ℕ → ℕ
bit x i = x / 2 ^ i % 2

-- Every element of the list fits a word.
abbrev pub Words : List ℕ → Type 0
Words s = (k : ℕ) → get_or s k 0 < 2 ^ word_bits

-- The list with f k of word k in the place of each word k below n. What lies beyond stays, and the list keeps its length.
unfoldable pub changed : ℕ → (ℕ → ℕ → ℕ) → List ℕ → List ℕ
changed zero f s = s
changed (suc n) f [] = []
changed (suc n) f (x ∷ s) = f zero x ∷ changed n (λ k. f (suc k)) s

-- Whether two lists have the same words below n. A word past a list's end counts as 0.
unfoldable pub alike : ℕ → List ℕ → List ℕ → Bool
alike n s t = every n (λ k. eqb (get_or s k 0) (get_or t k 0))
