-- What is told text by text is told at once: a line is its fields, and lists in turn are those before the last and the last. From the two laws of a sink.
-- Assumes nothing.
use mathlib.Core.Path.{◌≡◌}
use mathlib.Core.List.{List, [], ◌∷◌, ◌++◌}
use Prim.Native.Nat.{ℕ, ◌+◌, ◌^◌, ◌<◌}
use native.Mathlib.Numerals.{add-one}
use native.Mathlib.Omega.{arith}
use lib.ListN.{length}
use Rattle.numbers.specs.General.{in_turn}
use Rattle.numbers.proofs.InTurnLaws.{none_in_turn, one_more_in_turn}
use Rattle.text.specs.Bytes.{tab}
use Rattle.text.specs.Lines.{line}
use Rattle.text.specs.Sinks.{Counts}
use Rattle.text.proofs.LineLaws.{ended, first_field}

-- A text that is counted from 0 is as long as the count, unless it is longer than any machine number.
pub counted : {text : List ℕ} {n : ℕ} → Counts 0 text n → length text < 2 ^ 64 → n ≡ length text
counted c h = omega (arith, c.more (omega arith))

-- The laws of a sink, of what it takes.
pub record Told {S : Type 0} (takes : S → List ℕ → S → Type 0) : Type 0 where
  pub nothing : (s : S) → takes s [] s
  pub joined : (s t u : S) (a b : List ℕ) → takes s a t → takes t b u → takes s (a ++ b) u

module _ {S : Type 0} {takes : S → List ℕ → S → Type 0} (laws : Told takes) where
  pub told_first :
      (field next : List ℕ) (more : List (List ℕ)) {s t u : S} → takes s (ended field tab) t → takes t (line next more) u
      → takes s (line field (next ∷ more)) u
  told_first field next more p q = rw (first_field field next more) (laws.joined _ _ _ _ _ p q)

  module _ (f : ℕ → List ℕ) where
    pub told_none : (k : ℕ) (s : S) → ((j : ℕ) → j < k → f j ≡ []) → takes s (in_turn k f) s
    told_none k s e = rw (none_in_turn f k e) (laws.nothing s)

    pub told_next : {k : ℕ} {s t u : S} → takes s (in_turn k f) t → takes t (f k) u → takes s (in_turn (k + 1) f) u
    told_next {k} p q = rw (add-one k, one_more_in_turn f k) (laws.joined _ _ _ _ _ p q)
