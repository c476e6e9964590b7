-- The pairs of the listing are the marked ones at or above the diagonal, in ascending order: lists in turn are in order if each is
-- and each stands before the next. Assumes nothing.
use mathlib.Core.Path.{◌≡◌, refl, sym, ap, ap₂, ◌∙◌, subst}
use mathlib.Core.Bool.{Bool, true, false, cond, ◌&&◌}
use mathlib.Core.Logic.{inl, inr, ⊎_elim}
use mathlib.Core.List.Memᴰ
use mathlib.Core.List.{List, [], ◌∷◌, ◌++◌, Memᴰ}
use Prim.Native.Nat.{ℕ, zero, suc, ◌≤◌, ◌<◌}
use native.Mathlib.Nat.{le_refl}
use native.Mathlib.Omega.{arith}
use borrow.Author.Tests.{leb-true, eqb-true, le-leb, eq-eqb}
use lib.Dec.{eqb, leb}
use Rattle.numbers.specs.General.{in_turn}
use Rattle.numbers.specs.Sizes.{label_ceiling}
use Rattle.numbers.proofs.InTurnLaws.{in_one_of, in_turn_lem}
use Rattle.labels.specs.Sets.{member}
use Rattle.matrix.specs.Matrix.{Pair, partners, marked}
use Rattle.listing.specs.Pairs.{pair_at, pairs_of, pairs}
use Rattle.listing.specs.Order.{Before, Ascending}

-- ---- lists in turn

-- no pair stands before itself
pub before_irreflexive : (p : Pair) → ¬ Before p p
before_irreflexive p = ⊎_elim (λ (l : p.0 < p.0). omega arith) (λ e. let l : p.1 < p.1 = e.1 in omega arith)

ascending_joined :
    (a b : List Pair) → Ascending a → Ascending b → ((p q : Pair) → Memᴰ p a → Memᴰ q b → Before p q) → Ascending (a ++ b)
ascending_joined [] b x y across = y
ascending_joined (p ∷ a) b x y across = (
  (λ q h. ⊎_elim (λ l. x.0 q l) (λ r. across p q (Memᴰ.head refl) r) (Memᴰ.append_cases a h)),
  ascending_joined a b x.1 y (λ s q l r. across s q (Memᴰ.tail l) r),
)

ascending_in_turn :
    (n : ℕ) (f : ℕ → List Pair) → ((k : ℕ) → k < n → Ascending (f k))
    → ((k l : ℕ) (p q : Pair) → k < l → Memᴰ p (f k) → Memᴰ q (f l) → Before p q) → Ascending (in_turn n f)
unfolding in_turn
ascending_in_turn zero f each across = tt
ascending_in_turn (suc n) f each across =
    ascending_joined (in_turn n f) (f n) (ascending_in_turn n f (λ k h. each k (omega arith)) across) (each n (le_refl (suc n)))
    (λ p q l r. let e = in_one_of f n p l in across e.place n p q e.below e.there r)

-- ---- the pairs of a label, and of all labels

of_pair : (s : List ℕ) (i j : ℕ) → i ≤ j → member s j ≡ 1 → Memᴰ (i, j) (pair_at s i j)
unfolding pair_at
of_pair s i j h e =
    subst (λ (t : Bool). Memᴰ (i, j) (cond {A = List Pair} t ((i, j) ∷ []) []))
    (sym (ap₂ ◌&&◌ (le-leb i j h) (eq-eqb (member s j) 1 e))) (Memᴰ.head refl)

pub record PairOf (s : List ℕ) (i j : ℕ) (p : Pair) : Type 0 where
  pub is : p ≡ (i, j)
  pub low : i ≤ j
  pub partner : member s j ≡ 1

pair_of : (s : List ℕ) (i j : ℕ) (p : Pair) → Memᴰ p (pair_at s i j) → PairOf s i j p
unfolding pair_at
pair_of s i j p h = go (leb i j) refl (eqb (member s j) 1) refl h
  where
    go :
        (a : Bool) → leb i j ≡ a → (b : Bool) → eqb (member s j) 1 ≡ b → Memᴰ p (cond {A = List Pair} (a && b) ((i, j) ∷ []) [])
        → PairOf s i j p
    go true e true f h = record { is = Memᴰ.eq_of_singleton h; low = leb-true i j e; partner = eqb-true (member s j) 1 f }
    go true e false f h = absurd (Memᴰ.not-nil h)
    go false e b f h = absurd (Memᴰ.not-nil h)

ascending_pair : (s : List ℕ) (i j : ℕ) → Ascending (pair_at s i j)
unfolding pair_at
ascending_pair s i j = go (leb i j && eqb (member s j) 1)
  where
    go : (b : Bool) → Ascending (cond {A = List Pair} b ((i, j) ∷ []) [])
    go true = ((λ q h. absurd (Memᴰ.not-nil h)), tt)
    go false = tt

ascending_pairs_of : (w : ℕ) (s : List ℕ) (i : ℕ) → Ascending (pairs_of w s i)
ascending_pairs_of w s i =
    ascending_in_turn (label_ceiling w) (pair_at s i) (λ j h. ascending_pair s i j)
    (λ k l p q h a b.
    let x = (pair_of s i k p a).is in
    let y = (pair_of s i l q b).is in
    inr (ap (λ (z : Pair). z.0) x ∙ sym (ap (λ (z : Pair). z.0) y), omega (arith, ap (λ (z : Pair). z.1) x, ap (λ (z : Pair). z.1) y, h)))

first_label : (w : ℕ) (s : List ℕ) (i : ℕ) (p : Pair) → Memᴰ p (pairs_of w s i) → p.0 ≡ i
first_label w s i p h =
    let e = in_one_of (pair_at s i) (label_ceiling w) p h in ap (λ (z : Pair). z.0) (pair_of s i e.place p e.there).is

pub pairs_ascending : (w : ℕ) (m : List ℕ) → Ascending (pairs w m)
pairs_ascending w m =
    ascending_in_turn (label_ceiling w) (λ i. pairs_of w (partners w m i) i) (λ i h. ascending_pairs_of w (partners w m i) i)
    (λ k l p q h a b. inl (omega (arith, first_label w (partners w m k) k p a, first_label w (partners w m l) l q b, h)))

-- What a listed pair is.
pub record MarkedPair (w : ℕ) (m : List ℕ) (p : Pair) : Type 0 where
  pub low : p.0 ≤ p.1
  pub label : p.1 < label_ceiling w
  pub mark : marked w m p.0 p.1 ≡ 1

pub listed_is_marked : (w : ℕ) (m : List ℕ) (p : Pair) → Memᴰ p (pairs w m) → MarkedPair w m p
unfolding marked
listed_is_marked w m p h =
    let e = in_one_of (λ i. pairs_of w (partners w m i) i) (label_ceiling w) p h in
    let f = in_one_of (pair_at (partners w m e.place) e.place) (label_ceiling w) p e.there in
    let g = pair_of (partners w m e.place) e.place f.place p f.there in
    subst (λ (q : Pair). MarkedPair w m q) (sym g.is) (record { low = g.low; label = f.below; mark = g.partner })

pub marked_is_listed : (w : ℕ) (m : List ℕ) (i j : ℕ) → i ≤ j → j < label_ceiling w → marked w m i j ≡ 1 → Memᴰ (i, j) (pairs w m)
unfolding marked
marked_is_listed w m i j h l e =
    in_turn_lem (λ i. pairs_of w (partners w m i) i) (label_ceiling w) (i, j) i (omega arith)
    (in_turn_lem (pair_at (partners w m i) i) (label_ceiling w) (i, j) j l (of_pair (partners w m i) i j h e))
