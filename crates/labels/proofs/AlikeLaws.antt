-- Two lists are alike below n exactly if each word below n is the same in both: the test of each word, tried at every number below n.
-- Assumes nothing.
use mathlib.Core.Bool.{Bool, true}
use mathlib.Core.List.{List}
use mathlib.Core.Path.{◌≡◌}
use Prim.Native.Nat.{ℕ, ◌<◌}
use borrow.Author.Tests.{eq-eqb, eqb-true}
use lib.Dec.{eqb}
use lib.ListN.{get_or}
use Rattle.numbers.proofs.EveryLaws.{every_passes, passes_every}
use Rattle.labels.specs.Words.{alike}

module _ (s t : List ℕ) where
  same_at : ℕ → Bool
  same_at k = eqb (get_or s k 0) (get_or t k 0)

  pub same_words_alike : (n : ℕ) → ((k : ℕ) → k < n → get_or s k 0 ≡ get_or t k 0) → alike n s t ≡ true
  unfolding alike same_at
  same_words_alike n e = passes_every same_at n (λ k h. eq-eqb (get_or s k 0) (get_or t k 0) (e k h))

  pub alike_same_words : (n : ℕ) → alike n s t ≡ true → (k : ℕ) → k < n → get_or s k 0 ≡ get_or t k 0
  unfolding alike same_at
  alike_same_words n e k h = eqb-true (get_or s k 0) (get_or t k 0) (every_passes same_at n e k h)
