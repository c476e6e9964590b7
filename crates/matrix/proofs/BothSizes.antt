-- The laws at one word and at two, without a new proof: what holds over w is cited at w = 1 and at w = 2.
-- Assumes nothing.
use mathlib.Core.Path.{◌≡◌}
use mathlib.Core.List.{List}
use Prim.Native.Nat.{ℕ, ◌≤◌, ◌<◌, min, max}
use lib.ListN.{length}
use Rattle.labels.specs.Sets.{member}
use Rattle.matrix.specs.Matrix.{marked, crossed}
use Rattle.matrix.proofs.MatrixLaws.{marked_crossed}

-- 64 labels, a matrix of 64 words
one_word :
    (m : List ℕ) → 64 ≤ length m → (a b : List ℕ) (i j : ℕ) → i < 64 → j < 64
    → marked 1 (crossed 1 a b m) i j ≡ max (marked 1 m i j) (max (min (member a i) (member b j)) (min (member b i) (member a j)))
one_word = marked_crossed 1

-- 128 labels, a matrix of 256 words
two_words :
    (m : List ℕ) → 256 ≤ length m → (a b : List ℕ) (i j : ℕ) → i < 128 → j < 128
    → marked 2 (crossed 2 a b m) i j ≡ max (marked 2 m i j) (max (min (member a i) (member b j)) (min (member b i) (member a j)))
two_words = marked_crossed 2
