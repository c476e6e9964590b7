-- Marking a statement's pairs besides what a matrix holds, part after part, is marking them all at once: a pair is marked after either exactly
-- if it was before or is one of the parts'. Assumes nothing.
use mathlib.Core.Path.{◌≡◌, sym, ap, ◌∙◌, subst}
use mathlib.Core.List.{List}
use Prim.Native.Nat.{ℕ, ◌≤◌, ◌<◌, min, max}
use native.Mathlib.Nat.{max-zero, zero-max}
use native.Mathlib.Omega.{arith}
use lib.Bits.{bit_or, or_self}
use lib.ListN.{length, get_or, get_or-eq_default, length-replicate}
use lib.Seq.{ext_get_or}
use Rattle.numbers.specs.Sizes.{matrix_words}
use Rattle.labels.specs.Sets.{member, none, joined}
use Rattle.labels.proofs.SetLaws.{length_joined, get_or_none}
use Rattle.labels.proofs.ChangedLaws.{changed_below, changed_beyond}
use Rattle.matrix.specs.Matrix.{marked, merged, crossed}
use Rattle.matrix.specs.Inner.{cleared}
use Rattle.matrix.proofs.MatrixLaws.{marks_make_the_matrix, marked_none, length_cleared}
use Rattle.analysis.proofs.Shape.{Sized, sized_none, sized_joined, sized_crossed}
use Rattle.analysis.proofs.Meanings.{by_range, merged_marks, crossed_marks}

module _ (w : ℕ) where
  -- whole matrices with the same marks are equal
  pub same_marks :
      {m n : List ℕ} → Sized (matrix_words w) m → Sized (matrix_words w) n → ((i j : ℕ) → marked w m i j ≡ marked w n i j) → m ≡ n
  same_marks {m} {n} x y e =
      marks_make_the_matrix w m n (x.size ∙ sym y.size) x.words y.words
      (λ k h. get_or-eq_default m 0 (subst (λ (s : ℕ). s ≤ k) (sym x.size) h)
      ∙ sym (get_or-eq_default n 0 (subst (λ (s : ℕ). s ≤ k) (sym y.size) h)))
      (λ i j h l. e i j)

  max_assoc : (a b c : ℕ) → max (max a b) c ≡ max a (max b c)
  max_assoc a b c = omega arith

  -- a crossing besides
  pub crossed_into :
      {a b m x : List ℕ} → Sized w a → Sized w b → Sized (matrix_words w) m → Sized (matrix_words w) x
      → crossed w a b (merged w m x) ≡ merged w m (crossed w a b x)
  crossed_into {a} {b} {m} {x} sa sb sm sx =
      same_marks (sized_crossed sa sb (sized_joined sm sx)) (sized_joined sm (sized_crossed sa sb sx))
      (λ i j. crossed_marks w sa sb (sized_joined sm sx) i j
      ∙ ap (λ (k : ℕ). max k (max (min (member a i) (member b j)) (min (member b i) (member a j)))) (merged_marks w sm sx i j)
      ∙ max_assoc (marked w m i j) (marked w x i j) (max (min (member a i) (member b j)) (min (member b i) (member a j)))
      ∙ sym (merged_marks w sm (sized_crossed sa sb sx) i j ∙ ap (λ (k : ℕ). max (marked w m i j) k) (crossed_marks w sa sb sx i j)))

  -- two merges, one after the other
  pub merged_into :
      {m x y : List ℕ} → Sized (matrix_words w) m → Sized (matrix_words w) x → Sized (matrix_words w) y
      → merged w (merged w m x) y ≡ merged w m (merged w x y)
  merged_into {m} {x} {y} sm sx sy =
      same_marks (sized_joined (sized_joined sm sx) sy) (sized_joined sm (sized_joined sx sy))
      (λ i j. merged_marks w (sized_joined sm sx) sy i j
      ∙ ap (λ (k : ℕ). max k (marked w y i j)) (merged_marks w sm sx i j)
      ∙ max_assoc (marked w m i j) (marked w x i j) (marked w y i j)
      ∙ sym (merged_marks w sm (sized_joined sx sy) i j ∙ ap (λ (k : ℕ). max (marked w m i j) k) (merged_marks w sx sy i j)))

  -- the same pairs besides
  pub self_into : (m : List ℕ) → merged w m m ≡ m
  unfolding joined
  self_into m =
      ext_get_or 0 (merged w m m) m (length_joined (matrix_words w) m m)
      (λ k h. let l : k < length m = subst (λ (n : ℕ). k < n) (length_joined (matrix_words w) m m) h in
      by_range k (matrix_words w)
      (λ inside. changed_below (matrix_words w) (λ j x. bit_or x (get_or m j 0)) m k inside l ∙ or_self (get_or m k 0))
      (changed_beyond (matrix_words w) (λ j x. bit_or x (get_or m j 0)) m k))

  -- no pairs besides
  pub none_into : {m : List ℕ} → Sized (matrix_words w) m → merged w m (none (matrix_words w)) ≡ m
  none_into {m} sm =
      same_marks (sized_joined sm (sized_none (matrix_words w))) sm
      (λ i j. merged_marks w sm (sized_none (matrix_words w)) i j
      ∙ ap (λ (k : ℕ). max (marked w m i j) k) (marked_none w i j)
      ∙ max-zero (marked w m i j))

  -- a matrix of that size without a pair, whatever stood there
  cleared_none : (m : List ℕ) → length m ≡ matrix_words w → cleared w m ≡ none (matrix_words w)
  unfolding cleared
  cleared_none m size =
      ext_get_or 0 (cleared w m) (none (matrix_words w))
      (length_cleared w m ∙ size ∙ sym (length-replicate (matrix_words w) 0))
      (λ k h. let l : k < length m = subst (λ (n : ℕ). k < n) (length_cleared w m) h in
      changed_below (matrix_words w) (λ j x. 0) m k (subst (λ (n : ℕ). k < n) size l) l ∙ sym (get_or_none (matrix_words w) k))

  -- besides nothing
  pub cleared_into : (m : List ℕ) {x : List ℕ} → length m ≡ matrix_words w → Sized (matrix_words w) x → merged w (cleared w m) x ≡ x
  cleared_into m {x} size sx =
      ap (λ (c : List ℕ). merged w c x) (cleared_none m size)
      ∙ same_marks (sized_joined (sized_none (matrix_words w)) sx) sx
      (λ i j. merged_marks w (sized_none (matrix_words w)) sx i j
      ∙ ap (λ (k : ℕ). max k (marked w x i j)) (marked_none w i j)
      ∙ zero-max (marked w x i j))
