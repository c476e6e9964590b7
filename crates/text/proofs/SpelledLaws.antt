-- The spelling of a number goes by its last digit: one digit alone below ten, else the spelling of a tenth and the last digit.
-- What holds of both cases holds of every spelling. Assumes nothing.
use mathlib.Core.Path.{◌≡◌, refl, sym, ap, ap₂, ◌∙◌}
use mathlib.Core.Bool.{true}
use mathlib.Core.List.Memᴰ
use mathlib.Core.List.{List, [], ◌∷◌, ◌++◌, Memᴰ}
use mathlib.Core.Logic.{⊎_elim}
use Prim.Native.Nat.{ℕ, zero, suc, ◌+◌, ◌-◌, ◌*◌, ◌/◌, ◌%◌, ◌^◌, ◌≤◌, ◌<◌}
use native.Mathlib.Nat.{not-suc-le-zero, le_refl, lt_of_lt_of_le, pow-suc, one-le-pow}
use native.Mathlib.Decide.{dec_lt}
use native.Mathlib.Omega.{arith}
use lib.Dec.{lit≤}
use lib.ListN.{length, length-append}
use borrow.Author.Tests.{lt-ltb, le-ltb}
use Rattle.text.specs.Bytes.{digit, is_digit}
use Rattle.text.specs.Numbers.{spelled_in, spelled}
use Rattle.text.proofs.DigitLaws.{digit_is}

one_digit : (most n : ℕ) → n < 10 → spelled_in (suc most) n ≡ digit n ∷ []
unfolding spelled_in
one_digit most n h = rw (lt-ltb n 10 h, spelled_in)

more_digits : (most n : ℕ) → 10 ≤ n → spelled_in (suc most) n ≡ spelled_in most (n / 10) ++ (digit (n % 10) ∷ [])
unfolding spelled_in
more_digits most n h = rw (le-ltb n 10 h, spelled_in)

-- The rule for every spelling: at one digit, and at a digit more.
module _
    (P : ℕ → List ℕ → Type 0)
    (alone : (n : ℕ) → n < 10 → P n (digit n ∷ []))
    (last : (n : ℕ) (s : List ℕ) → 10 ≤ n → P (n / 10) s → P n (s ++ (digit (n % 10) ∷ [])))
  where
    within : (most n : ℕ) → n < most → P n (spelled_in most n)
    within zero n h = absurd (not-suc-le-zero h)
    within (suc most) n h = by_size (dec_lt n 10) (λ l. within most (n / 10) (omega arith))
      where
        by_size : Dec (n < 10) → (10 ≤ n → P (n / 10) (spelled_in most (n / 10))) → P n (spelled_in (suc most) n)
        by_size (yes l) rest = rw (one_digit most n l) (alone n l)
        by_size (no l) rest =
            let g : 10 ≤ n = omega arith in rw (more_digits most n g) (last n (spelled_in most (n / 10)) g (rest g))

    pub every_spelling : (n : ℕ) → P n (spelled n)
    unfolding spelled
    every_spelling n = within (suc n) n (le_refl (suc n))

-- Two allowances that are large enough give the same digits.
enough : (most other n : ℕ) → n < most → n < other → spelled_in most n ≡ spelled_in other n
enough zero other n h g = absurd (not-suc-le-zero h)
enough (suc most) zero n h g = absurd (not-suc-le-zero g)
enough (suc most) (suc other) n h g = by_size (dec_lt n 10) (λ l. enough most other (n / 10) (omega arith) (omega arith))
  where
    by_size : Dec (n < 10) → (10 ≤ n → spelled_in most (n / 10) ≡ spelled_in other (n / 10)) → spelled_in (suc most) n ≡ spelled_in (suc other) n
    by_size (yes l) rest = one_digit most n l ∙ sym (one_digit other n l)
    by_size (no l) rest =
        let a : 10 ≤ n = omega arith in
        more_digits most n a ∙ ap (λ (s : List ℕ). s ++ (digit (n % 10) ∷ [])) (rest a) ∙ sym (more_digits other n a)

pub spelled_alone : (n : ℕ) → n < 10 → spelled n ≡ digit n ∷ []
unfolding spelled
spelled_alone n h = one_digit n n h

pub spelled_last : (n : ℕ) → 10 ≤ n → spelled n ≡ spelled (n / 10) ++ (digit (n % 10) ∷ [])
unfolding spelled
spelled_last n h =
    more_digits n n h
    ∙ ap (λ (s : List ℕ). s ++ (digit (n % 10) ∷ [])) (enough n (suc (n / 10)) (n / 10) (omega arith) (le_refl (suc (n / 10))))

-- A digit behind a number that is not 0.
pub spelled_onto : (n d : ℕ) → 1 ≤ n → d ≤ 9 → spelled (10 * n + d) ≡ spelled n ++ (digit d ∷ [])
spelled_onto n d h l =
    spelled_last (10 * n + d) (omega arith)
    ∙ ap₂ (λ (q r : ℕ). spelled q ++ (digit r ∷ [])) quotient rest
  where
    quotient : (10 * n + d) / 10 ≡ n
    quotient = omega arith

    rest : (10 * n + d) % 10 ≡ d
    rest = omega arith

pub spelled_digits : (n b : ℕ) → Memᴰ b (spelled n) → is_digit b ≡ true
spelled_digits n =
    every_spelling (λ n s. (b : ℕ) → Memᴰ b s → is_digit b ≡ true)
    (λ n h b m. ap is_digit (Memᴰ.eq_of_singleton m) ∙ digit_is n (omega arith))
    (λ n s h rest b m.
    ⊎_elim (rest b) (λ w. ap is_digit (Memᴰ.eq_of_singleton w) ∙ digit_is (n % 10) (omega arith)) (Memᴰ.append_cases s m))
    n

pub spelled_some : (n : ℕ) → 1 ≤ length (spelled n)
spelled_some =
    every_spelling (λ n s. 1 ≤ length s)
    (λ n h. le_refl 1)
    (λ n s h rest. omega (arith, length-append s (digit (n % 10) ∷ [])))

pub spelled_short : (most n : ℕ) → n < 10 ^ suc most → length (spelled n) ≤ suc most
spelled_short zero n h = rw (spelled_alone n h) (le_refl 1)
spelled_short (suc most) n h =
    by_size (dec_lt n 10) (λ l. spelled_short most (n / 10) (omega (arith, pow-suc 10 (suc most), h)))
  where
    by_size : Dec (n < 10) → (10 ≤ n → length (spelled (n / 10)) ≤ suc most) → length (spelled n) ≤ suc (suc most)
    by_size (yes l) rest = rw (spelled_alone n l) (omega arith)
    by_size (no l) rest =
        let g : 10 ≤ n = omega arith in
        rw (spelled_last n g) (omega (arith, rest g, length-append (spelled (n / 10)) (digit (n % 10) ∷ [])))

pub spelled_long : (least n : ℕ) → 10 ^ least ≤ n → suc least ≤ length (spelled n)
spelled_long zero n h = spelled_some n
spelled_long (suc least) n h =
    let tenth : 10 ^ least ≤ n / 10 = omega (arith, pow-suc 10 least) in
    let g : 10 ≤ n = omega (arith, one-le-pow least 10 (lit≤ tt)) in
    rw (spelled_last n g) (omega (arith, spelled_long least (n / 10) tenth, length-append (spelled (n / 10)) (digit (n % 10) ∷ [])))

-- A number of at most four digits.
pub spelled_four : (n : ℕ) → n < 10000 → length (spelled n) ≤ 4
spelled_four n h = spelled_short 3 n h

-- A number that the machine holds has at most twenty digits.
pub digits_few : (n : ℕ) → n < 2 ^ 64 → length (spelled n) ≤ 20
digits_few n h = spelled_short 19 n (lt_of_lt_of_le h (lit≤ tt))

-- The number that digits say, behind one that was said before.
said : ℕ → List ℕ → ℕ
said n [] = n
said n (b ∷ s) = said (10 * n + (b - digit 0)) s

said_last : (n : ℕ) (s : List ℕ) (b : ℕ) → said n (s ++ (b ∷ [])) ≡ 10 * said n s + (b - digit 0)
unfolding said
said_last n [] b = refl
said_last n (a ∷ s) b = said_last (10 * n + (a - digit 0)) s b

said_spelled : (n : ℕ) → said 0 (spelled n) ≡ n
unfolding said
said_spelled =
    every_spelling (λ n s. said 0 s ≡ n)
    (λ n h. omega arith)
    (λ n s h rest. said_last 0 s (digit (n % 10)) ∙ (omega (arith, rest)))

pub spelled_injective : (m n : ℕ) → spelled m ≡ spelled n → m ≡ n
spelled_injective m n e = sym (said_spelled m) ∙ ap (said 0) e ∙ said_spelled n
