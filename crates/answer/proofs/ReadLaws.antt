-- What was laid on a list stands at its front, and is as long as the reply says. By the length of a list that another was put before.
-- Assumes nothing.
use mathlib.Core.Path.{◌≡◌, sym, ap, ◌∙◌}
use mathlib.Core.List.{List}
use Prim.Native.Nat.{ℕ, ◌≤◌}
use native.Mathlib.Omega.{arith}
use lib.ListN.{length, take, drop, length-append}
use lib.Seq.{take_at}
use Rattle.numbers.specs.General.{laid}

-- A list on whose front another was laid.
pub record Begins (new l : List ℕ) : Type 0 where
  pub old : List ℕ
  pub over : l ≡ laid new old

module _ {new l : List ℕ} {n : ℕ} (b : Begins new l) (counted : n ≡ length new) where
  pub front_within : n ≤ length l
  front_within = omega (arith, counted, ap length b.over, length-append new (drop (length new) b.old))

  pub front_taken : take n l ≡ new
  front_taken = ap (take n) b.over ∙ take_at new (drop (length new) b.old) n (sym counted)
