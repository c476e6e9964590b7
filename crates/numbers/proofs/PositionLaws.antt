-- What `position` finds in a list is the lowest place at which the test passes, and it finds nothing where that is the list's length.
-- Assumes nothing.
use mathlib.Core.Bool.{Bool}
use mathlib.Core.List.{List}
use mathlib.Core.Path.{◌≡◌, refl, sym, ◌∙◌}
use Prim.Native.Nat.{ℕ, ◌≤◌, ◌<◌}
use native.Mathlib.Omega.{arith}
use lib.Dec.{ltb}
use lib.ListN.{length, get_or}
use Rattle.std.specs.List.{position, position_or_len}
use Rattle.std.specs.Ordering.{nat_cmp, as_partial_cmp, partial_gt}
use Rattle.std.specs.Prelude.{Some, None}
use Rattle.std.proofs.lemmas.Grind.{common_steps}
use Rattle.std.proofs.lemmas.List.Sums.{position_or_len_is}
use Rattle.numbers.specs.General.{lowest}
use Rattle.numbers.proofs.LowestLaws.{lowest_within, lowest_passes, none_below}

-- A list and a test of its elements, told as a test of the places.
module _
    {A : Type 0} (p : A → Bool) (xs : List A) (d : A) (test : ℕ → Bool) (same : (k : ℕ) → k < length xs → p (get_or xs k d) ≡ test k) where
  -- The place where the search stops, which is the list's length where it finds nothing.
  pub position_stops : position_or_len p xs ≡ lowest (length xs) test
  position_stops =
      position_or_len_is p xs (lowest (length xs) test) d (lowest_within (length xs) test)
      (λ k l. same k (omega (arith, lowest_within (length xs) test)) ∙ none_below (length xs) test k l)
      (λ l. same (lowest (length xs) test) l ∙ lowest_passes (length xs) test l)

  -- What it found is the lowest place at which the test passes.
  pub position_found : {k : ℕ} → Some k ≡ position p xs → (k < length xs) × (k ≡ lowest (length xs) test)
  position_found {k} e =
      let at : position_or_len p xs ≡ k = grind (arith, common_steps) in
      let within : k < length xs = grind (arith, common_steps) in
      (within, sym at ∙ position_stops)

  -- Where it found nothing, the test passes at no place.
  pub position_none : None ≡ position p xs → length xs ≡ lowest (length xs) test
  position_none e =
      let end : length xs ≤ position_or_len p xs = grind (arith, common_steps) in
      omega (arith, position_stops, lowest_within (length xs) test)

-- The test that `first_above` makes of a number.
above_test : (most x : ℕ) → partial_gt (as_partial_cmp nat_cmp) x most ≡ ltb most x
above_test most x = by_order (ltb x most) refl (ltb most x) refl
  where
    by_order : (b : Bool) → ltb x most ≡ b → (c : Bool) → ltb most x ≡ c → partial_gt (as_partial_cmp nat_cmp) x most ≡ c
    by_order b l c m = grind (arith, common_steps)

-- What `first_above` found among numbers, and that it found nothing: bytes and numbers of two bytes are both numbers here.
module _ (most : ℕ) (xs : List ℕ) where
  abbrev pub is_above : ℕ → Bool
  is_above i = ltb most (get_or xs i 0)

  abbrev pub above : ℕ → Bool
  above x = partial_gt (as_partial_cmp nat_cmp) x most

  pub above_found : {k : ℕ} → Some k ≡ position above xs → (k < length xs) × (k ≡ lowest (length xs) is_above)
  above_found e = position_found above xs 0 is_above (λ j l. above_test most (get_or xs j 0)) e

  pub above_none : None ≡ position above xs → length xs ≡ lowest (length xs) is_above
  above_none e = position_none above xs 0 is_above (λ j l. above_test most (get_or xs j 0)) e
