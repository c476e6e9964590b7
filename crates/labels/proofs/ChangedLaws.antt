-- A list changed in place keeps its length, each changed word is f of the old one and what lies beyond stays: by recursion on the list, once for every use.
-- Assumes nothing.
use mathlib.Core.Path.{◌≡◌, refl, sym, ap, ap₂, ◌∙◌, subst⁻¹}
use mathlib.Core.List.{List, [], ◌∷◌, ◌++◌}
use Prim.Native.Nat.{ℕ, zero, suc, ◌+◌, ◌^◌, ◌≤◌, ◌<◌, min, suc-le-suc, zero-le}
use native.Mathlib.Nat.{zero-min, min-zero, suc-min-suc, not-suc-le-zero, le_of_suc-le-suc, zero-lt-suc}
use lib.Dec.{lit<}
use lib.ListN.{length, get_or, set, take, drop}
use lib.Seq.{get_or-drop}
use Rattle.labels.specs.Words.{changed, Words}
use Rattle.numbers.specs.Sizes.{word_bits}

pub length_changed : (n : ℕ) (f : ℕ → ℕ → ℕ) (s : List ℕ) → length (changed n f s) ≡ length s
unfolding changed
length_changed zero f s = refl
length_changed (suc n) f [] = refl
length_changed (suc n) f (x ∷ s) = ap suc (length_changed n (λ k. f (suc k)) s)

pub changed_below : (n : ℕ) (f : ℕ → ℕ → ℕ) (s : List ℕ) (k : ℕ) → k < n → k < length s → get_or (changed n f s) k 0 ≡ f k (get_or s k 0)
unfolding changed
changed_below zero f s k h l = absurd (not-suc-le-zero h)
changed_below (suc n) f [] k h l = absurd (not-suc-le-zero l)
changed_below (suc n) f (x ∷ s) zero h l = refl
changed_below (suc n) f (x ∷ s) (suc k) h l = changed_below n (λ j. f (suc j)) s k (le_of_suc-le-suc h) (le_of_suc-le-suc l)

pub changed_beyond : (n : ℕ) (f : ℕ → ℕ → ℕ) (s : List ℕ) (k : ℕ) → n ≤ k → get_or (changed n f s) k 0 ≡ get_or s k 0
unfolding changed
changed_beyond zero f s k h = refl
changed_beyond (suc n) f [] k h = refl
changed_beyond (suc n) f (x ∷ s) zero h = absurd (not-suc-le-zero h)
changed_beyond (suc n) f (x ∷ s) (suc k) h = changed_beyond n (λ j. f (suc j)) s k (le_of_suc-le-suc h)

-- one more word: what a turn of a loop stores
pub changed_step :
    (n : ℕ) (f : ℕ → ℕ → ℕ) (s : List ℕ) → n < length s → set (changed n f s) n (f n (get_or s n 0)) ≡ changed (suc n) f s
unfolding changed
changed_step n f [] h = absurd (not-suc-le-zero h)
changed_step zero f (x ∷ s) h = refl
changed_step (suc n) f (x ∷ s) h =
    ap (λ (t : List ℕ). f zero x ∷ t) (changed_step n (λ k. f (suc k)) s (le_of_suc-le-suc h))

-- a list that is too short is changed as far as it goes
pub changed_short : (n : ℕ) (f : ℕ → ℕ → ℕ) (s : List ℕ) → changed (min n (length s)) f s ≡ changed n f s
unfolding changed
changed_short zero f s = ap (λ (k : ℕ). changed k f s) (zero-min (length s))
changed_short (suc n) f [] = ap (λ (k : ℕ). changed k f []) (min-zero (suc n))
changed_short (suc n) f (x ∷ s) =
    ap (λ (k : ℕ). changed k f (x ∷ s)) (suc-min-suc n (length s))
    ∙ ap (λ (t : List ℕ). f zero x ∷ t) (changed_short n (λ k. f (suc k)) s)

-- two changes that agree below n, word by word, are one
pub changed_alike :
    (n : ℕ) (f g : ℕ → ℕ → ℕ) (s : List ℕ) → ((k : ℕ) → k < n → k < length s → f k (get_or s k 0) ≡ g k (get_or s k 0)) → changed n f s ≡ changed n g s
unfolding changed
changed_alike zero f g s e = refl
changed_alike (suc n) f g [] e = refl
changed_alike (suc n) f g (x ∷ s) e =
    ap₂ (λ (y : ℕ) (t : List ℕ). y ∷ t) (e zero (zero-lt-suc n) (zero-lt-suc (length s)))
    (changed_alike n (λ k. f (suc k)) (λ k. g (suc k)) s (λ k h l. e (suc k) (suc-le-suc h) (suc-le-suc l)))

-- a change that changes nothing
pub changed_same : (n : ℕ) (s : List ℕ) → changed n (λ k x. x) s ≡ s
unfolding changed
changed_same zero s = refl
changed_same (suc n) [] = refl
changed_same (suc n) (x ∷ s) = ap (λ (t : List ℕ). x ∷ t) (changed_same n s)

-- the first words changed apart from the others
pub changed_front : (n : ℕ) (f : ℕ → ℕ → ℕ) (s : List ℕ) → changed n f (take n s) ++ drop n s ≡ changed n f s
unfolding changed
changed_front zero f s = refl
changed_front (suc n) f [] = refl
changed_front (suc n) f (x ∷ s) = ap (λ (t : List ℕ). f zero x ∷ t) (changed_front n (λ k. f (suc k)) s)

-- a change that leaves the words from n on as they are
pub changed_no_further :
    (n most : ℕ) (f : ℕ → ℕ → ℕ) (s : List ℕ) → n ≤ most → ((k : ℕ) → n ≤ k → k < most → k < length s → f k (get_or s k 0) ≡ get_or s k 0)
    → changed n f s ≡ changed most f s
unfolding changed
changed_no_further zero most f s h e =
    sym (changed_alike most f (λ k x. x) s (λ k l j. e k zero-le l j) ∙ changed_same most s)
changed_no_further (suc n) zero f s h e = absurd (not-suc-le-zero h)
changed_no_further (suc n) (suc most) f [] h e = refl
changed_no_further (suc n) (suc most) f (x ∷ s) h e =
    ap (λ (t : List ℕ). f zero x ∷ t)
    (changed_no_further n most (λ k. f (suc k)) s (le_of_suc-le-suc h) (λ k g l j. e (suc k) (suc-le-suc g) (suc-le-suc l) (suc-le-suc j)))

-- a change that keeps within a word leaves words
pub words_changed :
    (n : ℕ) (f : ℕ → ℕ → ℕ) (s : List ℕ) → ((k x : ℕ) → x < 2 ^ word_bits → f k x < 2 ^ word_bits) → Words s → Words (changed n f s)
unfolding changed
words_changed zero f s fit ws k = ws k
words_changed (suc n) f [] fit ws k = ws k
words_changed (suc n) f (x ∷ s) fit ws zero = fit zero x (ws zero)
words_changed (suc n) f (x ∷ s) fit ws (suc k) = words_changed n (λ j. f (suc j)) s (λ j. fit (suc j)) (λ j. ws (suc j)) k

pub words_take : (n : ℕ) (s : List ℕ) → Words s → Words (take n s)
words_take zero s ws k = lit< tt
words_take (suc n) [] ws k = lit< tt
words_take (suc n) (x ∷ s) ws zero = ws zero
words_take (suc n) (x ∷ s) ws (suc k) = words_take n s (λ j. ws (suc j)) k

pub words_drop : (n : ℕ) (s : List ℕ) → Words s → Words (drop n s)
words_drop n s ws k = subst⁻¹ (λ (x : ℕ). x < 2 ^ word_bits) (get_or-drop n s k 0) (ws (n + k))
