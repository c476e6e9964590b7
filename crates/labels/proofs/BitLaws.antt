-- The bits of an or, an and, a product by a bit and a power of two, and that bits make the word: each by halving, one bit at a time.
-- Assumes nothing.
use mathlib.Core.Path.{◌≡◌, sym, ap, ◌∙◌, subst}
use Prim.Native.Nat.{ℕ, zero, suc, ◌+◌, ◌*◌, ◌/◌, ◌%◌, ◌^◌, ◌<◌, min, max}
use native.Mathlib.Nat.{zero-mul, one-mul, zero-div, zero-mod, div-one, mod-lt, pow-suc, mul_comm, mul-div_cancel, mul-mod_left, div-div-eq-div-mul}
use native.Mathlib.Nat.{div-lt_iff_lt-mul, zero-min, min-eq_right, le_of_suc-le-suc, min-le_left, lt_of_le_of_lt}
use native.Mathlib.Omega.{arith}
use lib.Dec.{eqb, eqb-zero-suc, eqb-suc-zero, eqb-suc-suc, lit<}
use lib.Bits.{bit_or, bit_and, or_shr, or_step, and_shr, and_step}
use Rattle.labels.specs.Words.{bit}
use Rattle.numbers.specs.General.{one_if}

pub bit_lt : (x i : ℕ) → bit x i < 2
unfolding bit
bit_lt x i = mod-lt (x / 2 ^ i) (lit< tt)

pub bit_of_zero : (i : ℕ) → bit 0 i ≡ 0
unfolding bit
bit_of_zero i = ap (λ (n : ℕ). n % 2) (zero-div (2 ^ i)) ∙ zero-mod 2

-- bit 0 is the lowest digit, and the others are the half's
pub bit_first : (x : ℕ) → bit x zero ≡ x % 2
unfolding bit
bit_first x = ap (λ (n : ℕ). n % 2) (div-one x)

pub bit_next : (x i : ℕ) → bit x (suc i) ≡ bit (x / 2) i
unfolding bit
bit_next x i =
    ap (λ (n : ℕ). n % 2) (ap (λ (d : ℕ). x / d) (pow-suc 2 i ∙ mul_comm (2 ^ i) 2) ∙ sym (div-div-eq-div-mul x 2 (2 ^ i)))

max_below : {a b c : ℕ} → a < c → b < c → max a b < c
max_below h l = omega arith

low_digit : (a c : ℕ) → c < 2 → (a * 2 + c) % 2 ≡ c
low_digit a c h = omega arith

pub bit_of_or : (x y i : ℕ) → bit (bit_or x y) i ≡ max (bit x i) (bit y i)
unfolding bit
bit_of_or x y i =
    ap (λ (n : ℕ). n % 2) (or_shr x y i ∙ or_step (x / 2 ^ i) (y / 2 ^ i))
    ∙ low_digit (bit_or (x / 2 ^ i / 2) (y / 2 ^ i / 2)) (max (bit x i) (bit y i)) (max_below (bit_lt x i) (bit_lt y i))

pub bit_of_and : (x y i : ℕ) → bit (bit_and x y) i ≡ min (bit x i) (bit y i)
unfolding bit
bit_of_and x y i =
    ap (λ (n : ℕ). n % 2) (and_shr x y i ∙ and_step (x / 2 ^ i) (y / 2 ^ i))
    ∙ low_digit (bit_and (x / 2 ^ i / 2) (y / 2 ^ i / 2)) (min (bit x i) (bit y i)) (lt_of_le_of_lt (min-le_left (bit x i) (bit y i)) (bit_lt x i))

-- a bit times a word is the word or nothing
pub bit_times : (t x i : ℕ) → t < 2 → bit (t * x) i ≡ min t (bit x i)
bit_times zero x i h = ap (λ (n : ℕ). bit n i) (zero-mul x) ∙ bit_of_zero i ∙ sym (zero-min (bit x i))
bit_times (suc zero) x i h = ap (λ (n : ℕ). bit n i) (one-mul x) ∙ sym (min-eq_right (le_of_suc-le-suc (bit_lt x i)))
bit_times (suc (suc t)) x i h = absurd (omega arith)

pub bit_of_power : (l i : ℕ) → bit (2 ^ l) i ≡ one_if (eqb l i)
bit_of_power zero zero = bit_first 1
bit_of_power zero (suc i) = bit_next 1 i ∙ bit_of_zero i ∙ ap one_if (sym (eqb-zero-suc i))
bit_of_power (suc l) zero =
    bit_first (2 ^ suc l) ∙ ap (λ (n : ℕ). n % 2) (pow-suc 2 l) ∙ mul-mod_left (2 ^ l) 2 ∙ ap one_if (sym (eqb-suc-zero l))
bit_of_power (suc l) (suc i) =
    bit_next (2 ^ suc l) i
    ∙ ap (λ (n : ℕ). bit n i) (ap (λ (n : ℕ). n / 2) (pow-suc 2 l) ∙ mul-div_cancel (2 ^ l) (lit< tt))
    ∙ bit_of_power l i
    ∙ ap one_if (sym (eqb-suc-suc l i))

pub half_below : (k x : ℕ) → x < 2 ^ suc k → x / 2 < 2 ^ k
half_below k x h = (div-lt_iff_lt-mul (lit< tt)).1 (subst (λ (n : ℕ). x < n) (pow-suc 2 k) h)

-- two numbers of k bits with the same bits are equal
pub bits_make_the_word : (k x y : ℕ) → x < 2 ^ k → y < 2 ^ k → ((i : ℕ) → i < k → bit x i ≡ bit y i) → x ≡ y
bits_make_the_word zero x y hx hy same = omega arith
bits_make_the_word (suc k) x y hx hy same =
    let first : x % 2 ≡ y % 2 = sym (bit_first x) ∙ same zero (omega arith) ∙ bit_first y in
    let rest : x / 2 ≡ y / 2
    = bits_make_the_word k (x / 2) (y / 2) (half_below k x hx) (half_below k y hy)
    (λ i h. sym (bit_next x i) ∙ same (suc i) (omega arith) ∙ bit_next y i) in
    omega arith
