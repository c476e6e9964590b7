-- A number and the one below it have the same bits above its lowest 1, and below that 1 it has none: so what both have is the number without
-- its lowest 1. By halving, one bit at a time.
-- Assumes nothing.
use Rattle.std.proofs.Common.{◌≡◌, ◌≢◌, ℕ, suc, zero, ◌-◌, ◌/◌, ◌^◌, ◌%◌, ◌<◌, refl, sym, ap, ◌∙◌, arith, pow-suc}
use lib.Bits.{bit_and, and_step, and_shr, and_self}
use lib.Count.{count_trailing_zeros, under}
use Rattle.std.specs.Int.{bit_at}
use Rattle.std.proofs.lemmas.Nat.Bits.{bit_at_lowest, bit_at-suc}

-- the number without its lowest 1
abbrev pub less_lowest : ℕ → ℕ
less_lowest x = bit_and x (x - 1)

-- bit t of y is 0, and the others are x's
abbrev pub IsWithout : ℕ → ℕ → ℕ → Type 0
IsWithout x t y = (bit_at y t ≡ 0) × ((i : ℕ) → i ≢ t → bit_at y i ≡ bit_at x i)

even_now : (x : ℕ) → 0 < x → bit_at (less_lowest x) 0 ≡ 0
even_now x some = omega (arith, bit_at_lowest (less_lowest x), and_step x (x - 1))

odd_half : (x : ℕ) → x % 2 ≡ 1 → less_lowest x / 2 ≡ x / 2
odd_half x odd = let half : (x - 1) / 2 ≡ x / 2 = omega arith in and_shr x (x - 1) 1 ∙ ap (bit_and (x / 2)) half ∙ and_self (x / 2)

even_half : (x : ℕ) → 0 < x → x % 2 ≡ 0 → less_lowest x / 2 ≡ less_lowest (x / 2)
even_half x some even = let half : (x - 1) / 2 ≡ x / 2 - 1 = omega arith in and_shr x (x - 1) 1 ∙ ap (bit_and (x / 2)) half

next_bit : (x y i : ℕ) {h : ℕ} → y / 2 ≡ h → bit_at h i ≡ bit_at (x / 2) i → bit_at y (suc i) ≡ bit_at x (suc i)
next_bit x y i half same = bit_at-suc y i ∙ ap (λ (n : ℕ). bit_at n i) half ∙ same ∙ sym (bit_at-suc x i)

without_by :
    (x t d : ℕ) → 0 < x → x % 2 ≡ d → (0 < x / 2 → IsWithout (x / 2) t (less_lowest (x / 2))) → IsWithout x (under d t) (less_lowest x)
without_by x t (suc d) some odd half = (even_now x some, others)
  where
    others : (i : ℕ) → i ≢ zero → bit_at (less_lowest x) i ≡ bit_at x i
    others zero apart = absurd (apart refl)
    others (suc i) apart = next_bit x (less_lowest x) i (odd_half x (omega arith)) refl
without_by x t zero some even half = (bit_at-suc (less_lowest x) t ∙ ap (λ (n : ℕ). bit_at n t) (even_half x some even) ∙ below.0, others)
  where
    below : IsWithout (x / 2) t (less_lowest (x / 2))
    below = half (omega arith)

    others : (i : ℕ) → i ≢ suc t → bit_at (less_lowest x) i ≡ bit_at x i
    others zero apart = even_now x some ∙ sym (bit_at_lowest x ∙ even)
    others (suc i) apart = next_bit x (less_lowest x) i (even_half x some even) (below.1 i (λ e. apart (ap suc e)))

pub without_lowest : (k x : ℕ) → 0 < x → x < 2 ^ k → IsWithout x (count_trailing_zeros k x) (less_lowest x)
unfolding count_trailing_zeros
without_lowest zero x some fits = absurd (omega arith)
without_lowest (suc k) x some fits =
    without_by x (count_trailing_zeros k (x / 2)) (x % 2) some refl (λ rest. without_lowest k (x / 2) rest (omega (arith, pow-suc 2 k)))
