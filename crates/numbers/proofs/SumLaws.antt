-- Sums term by term, split in two, bounded, and what a sum says of its parts: by recursion on the number of terms.
-- Assumes nothing.
use mathlib.Core.Bool.{Bool, true, false}
use mathlib.Core.Logic.{⊎_elim}
use mathlib.Core.Path.{◌≡◌, refl, sym, ap, ap₂, ◌∙◌, subst}
use Prim.Native.Nat.{ℕ, zero, suc, ◌+◌, ◌*◌, ◌≤◌, ◌<◌}
use native.Mathlib.Nat.{add-zero, zero-add, add-suc, add_assoc, le_refl, le_of_suc-le-suc, eq-or-lt_of_le}
use native.Mathlib.Numerals.{add-one}
use native.Mathlib.Omega.{arith}
use borrow.Author.Tests.{ltb-true, ltb-false}
use lib.Dec.{ltb}
use Rattle.numbers.specs.General.{sum_below}

pub sum_alike : (n : ℕ) (f g : ℕ → ℕ) → ((k : ℕ) → k < n → f k ≡ g k) → sum_below n f ≡ sum_below n g
unfolding sum_below
sum_alike zero f g e = refl
sum_alike (suc n) f g e = ap₂ ◌+◌ (sum_alike n f g (λ k h. e k (omega arith))) (e n (le_refl (suc n)))

pub sum_split : (m n : ℕ) (f : ℕ → ℕ) → sum_below (m + n) f ≡ sum_below m f + sum_below n (λ k. f (m + k))
unfolding sum_below
sum_split m zero f = ap (λ (k : ℕ). sum_below k f) (add-zero m) ∙ sym (add-zero (sum_below m f))
sum_split m (suc n) f =
    ap (λ (k : ℕ). sum_below k f) (add-suc m n)
    ∙ ap (λ (x : ℕ). x + f (m + n)) (sum_split m n f)
    ∙ add_assoc (sum_below m f) (sum_below n (λ k. f (m + k))) (f (m + n))

pub sum_bounded : (n b : ℕ) (f : ℕ → ℕ) → ((k : ℕ) → k < n → f k ≤ b) → sum_below n f ≤ n * b
unfolding sum_below
sum_bounded zero b f h = Prim.Native.Nat.zero-le
sum_bounded (suc n) b f h =
    let earlier : sum_below n f ≤ n * b = sum_bounded n b f (λ k l. h k (omega arith)) in
    let last : f n ≤ b = h n (le_refl (suc n)) in
    omega (arith, native.Mathlib.Nat.suc-mul n b)

pub sum_first : (n : ℕ) (f : ℕ → ℕ) → sum_below (suc n) f ≡ f zero + sum_below n (λ k. f (suc k))
unfolding sum_below
sum_first zero f = zero-add (f zero) ∙ sym (add-zero (f zero))
sum_first (suc n) f =
    ap (λ (x : ℕ). x + f (suc n)) (sum_first n f) ∙ add_assoc (f zero) (sum_below n (λ k. f (suc k))) (f (suc n))

pub sum_next : (n : ℕ) (f : ℕ → ℕ) → sum_below (n + 1) f ≡ sum_below n f + f n
unfolding sum_below
sum_next n f = rw (add-one n)

pub part_within : (n : ℕ) (f : ℕ → ℕ) (k : ℕ) → k < n → f k ≤ sum_below n f
unfolding sum_below
part_within zero f k l = omega arith
part_within (suc n) f k l =
    ⊎_elim (λ (e : k ≡ n). subst (λ (m : ℕ). f m ≤ sum_below n f + f n) (sym e) (omega arith))
    (λ (lt : k < n). let h = part_within n f k lt in omega arith)
    (eq-or-lt_of_le (le_of_suc-le-suc l))

pub two_parts_within : (n : ℕ) (f : ℕ → ℕ) (j k : ℕ) → j < k → k < n → f j + f k ≤ sum_below n f
unfolding sum_below
two_parts_within zero f j k l m = omega arith
two_parts_within (suc n) f j k l m =
    ⊎_elim
    (λ (e : k ≡ n).
    subst (λ (x : ℕ). f j + f x ≤ sum_below n f + f n) (sym e) (let h = part_within n f j (subst (λ (x : ℕ). j < x) e l) in omega arith))
    (λ (lt : k < n). let h = two_parts_within n f j k l lt in omega arith)
    (eq-or-lt_of_le (le_of_suc-le-suc m))

pub part_above : (n : ℕ) (f : ℕ → ℕ) → 0 < sum_below n f → (k : ℕ) × (k < n) × (0 < f k)
unfolding sum_below
part_above zero f h = absurd (omega arith)
part_above (suc n) f h = go (f n) refl (part_above n f)
  where
    go : (x : ℕ) → f n ≡ x → (0 < sum_below n f → (k : ℕ) × (k < n) × (0 < f k)) → (k : ℕ) × (k < suc n) × (0 < f k)
    go zero e earlier = let r = earlier (omega arith) in (r.0, omega arith, r.2)
    go (suc x) e earlier = (n, omega arith, omega arith)

-- A sum of at most one has at most one part above 0.
pub sole_part : (n : ℕ) (f : ℕ → ℕ) → sum_below n f ≤ 1 → (j k : ℕ) → j < n → k < n → 0 < f j → 0 < f k → j ≡ k
sole_part n f h j k jn kn fj fk = go (ltb j k) refl (ltb k j) refl
  where
    go : (a : Bool) → ltb j k ≡ a → (b : Bool) → ltb k j ≡ b → j ≡ k
    go true a b b' = absurd (omega (arith, two_parts_within n f j k (ltb-true j k a) kn))
    go false a true b = absurd (omega (arith, two_parts_within n f k j (ltb-true k j b) jn))
    go false a false b = omega (arith, ltb-false j k a, ltb-false k j b)
