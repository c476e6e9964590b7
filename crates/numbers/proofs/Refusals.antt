-- The number and the place of a refusal fix it: a function gives it back from the two. Only 15 has two refusals, of a row and of a procedure.
-- Assumes nothing.
use Prim.Native.Nat.{ℕ}
use mathlib.Core.List.{List, [], ◌∷◌}
use mathlib.Core.Logic.{◌⊎◌, inl, inr}
use mathlib.Core.Path.{◌≡◌, refl, sym, ap₂, ◌∙◌}
use native.Mathlib.Omega.{arith}
use lib.ListN.{get_or}
use Rattle.numbers.specs.Refusals.{refusal_number, refusal_place}
use Rattle.numbers.specs.declared.Refusal.{Refusal}
use Rattle.numbers.specs.declared.Refusal.TheVariants.{Sizes, ShortMatrix, UnknownKind, WrongOperand, NoSuchRow, UsedAgain, Unused, LongSheet}
use Rattle.numbers.specs.declared.Refusal.TheVariants.{WrongForm, NoRoom, ShortBytes, LongOperand, LongRoot}

-- The refusals at a place, in the order of their numbers from 0. Numbers that no refusal has stand for any.
listed : ℕ → List Refusal
listed p =
    Sizes
    ∷ Sizes
    ∷ ShortMatrix
    ∷ UnknownKind (record { 0 = p })
    ∷ WrongOperand (record { 0 = p })
    ∷ NoSuchRow (record { 0 = p })
    ∷ UsedAgain (record { 0 = p })
    ∷ Unused (record { 0 = p })
    ∷ Sizes
    ∷ Sizes
    ∷ Sizes
    ∷ LongSheet
    ∷ WrongForm (record { 0 = p })
    ∷ NoRoom (record { 0 = p })
    ∷ ShortBytes
    ∷ []

found_again : (r : Refusal) → (refusal_number r ≡ 15 → ⊥) → get_or (listed (refusal_place r)) (refusal_number r) Sizes ≡ r
unfolding listed
found_again Sizes h = refl
found_again ShortMatrix h = refl
found_again (UnknownKind row) h = refl
found_again (WrongOperand row) h = refl
found_again (NoSuchRow proc) h = refl
found_again (UsedAgain row) h = refl
found_again (Unused row) h = refl
found_again LongSheet h = refl
found_again (WrongForm line) h = refl
found_again (NoRoom line) h = refl
found_again ShortBytes h = refl
found_again (LongOperand row) h = absurd (h refl)
found_again (LongRoot proc) h = absurd (h refl)

-- Two refusals of one number other than 15 and of one place are the same.
pub refusal_determined :
    (a b : Refusal) → refusal_number a ≡ refusal_number b → refusal_place a ≡ refusal_place b → (refusal_number a ≡ 15 → ⊥) → a ≡ b
refusal_determined a b n p h =
    sym (found_again a h) ∙ ap₂ (λ (q k : ℕ). get_or (listed q) k Sizes) p n ∙ found_again b (λ e. h (n ∙ e))

-- A refusal of number 15 is that of the row at its place, or that of the procedure.
pub fifteen_is :
    (r : Refusal) → refusal_number r ≡ 15
    → (r ≡ LongOperand (record { 0 = refusal_place r })) ⊎ (r ≡ LongRoot (record { 0 = refusal_place r }))
fifteen_is Sizes e = absurd (omega arith)
fifteen_is ShortMatrix e = absurd (omega arith)
fifteen_is (UnknownKind row) e = absurd (omega arith)
fifteen_is (WrongOperand row) e = absurd (omega arith)
fifteen_is (NoSuchRow proc) e = absurd (omega arith)
fifteen_is (UsedAgain row) e = absurd (omega arith)
fifteen_is (Unused row) e = absurd (omega arith)
fifteen_is LongSheet e = absurd (omega arith)
fifteen_is (WrongForm line) e = absurd (omega arith)
fifteen_is (NoRoom line) e = absurd (omega arith)
fifteen_is ShortBytes e = absurd (omega arith)
fifteen_is (LongOperand row) e = inl refl
fifteen_is (LongRoot proc) e = inr refl
