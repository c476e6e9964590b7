-- The words mean the sets: each rule on words and the published rule give the same members, since a union is a maximum and a crossing a maximum
-- of minima of bits. Assumes nothing.
use mathlib.Core.Path.{◌≡◌, refl, sym, ap, ap₂, ◌∙◌}
use mathlib.Core.Logic.{◌⊎◌, inl, inr, ⊎_map}
use mathlib.Core.List.{List}
use Prim.Native.Nat.{ℕ, zero, suc, ◌≤◌, ◌<◌, min, max}
use native.Mathlib.Decide.{dec_lt, ℕ_discrete}
use native.Mathlib.Nat.{zero-max, le_of_eq, zero-min, min-zero}
use native.Mathlib.Omega.{arith}
use borrow.Author.Tests.{eq-eqb, ne_eqb}
use lib.Dec.{eqb}
use Rattle.numbers.specs.General.{one_if}
use Rattle.numbers.specs.Sizes.{label_ceiling, matrix_words}
use Rattle.labels.specs.Sets.{member, union}
use Rattle.labels.proofs.SetLaws.{member_lt, member_none, member_union, member_single, member_beyond}
use Rattle.matrix.specs.Matrix.{marked, merged, crossed}
use Rattle.matrix.proofs.MatrixLaws.{marked_lt, marked_none, marked_merged, marked_crossed, marked_beyond_label, marked_beyond_partner}
use Rattle.calculus.specs.Syntax.{Stmt, skip, step, seq, loop, async, finish, call}
use Rattle.calculus.specs.Rules.{Summary, summary_of, Inside}
use Rattle.calculus.proofs.Inside.{inside_refl, inside_trans, joined_inside, looped_inside, spawned_inside, waited_inside}
use Rattle.analysis.specs.Summaries.{WordSummary, empty_words, step_words, followed_words, looped_words, waited_words, words_of}
use Rattle.analysis.specs.Meaning.{meaning}
use Rattle.analysis.proofs.Shape.{Sized, Shaped, shaped, sized_joined, sized_crossed}
use Rattle.calculus.specs.Rules as rules

-- ---- bits as truths

max_one : (a b : ℕ) → a < 2 → max a b ≡ 1 → (a ≡ 1) ⊎ (b ≡ 1)
max_one zero b h e = inr (sym (zero-max b) ∙ e)
max_one (suc zero) b h e = inl refl
max_one (suc (suc a)) b h e = absurd (omega arith)

one_max : (a b : ℕ) → a < 2 → b < 2 → (a ≡ 1) ⊎ (b ≡ 1) → max a b ≡ 1
one_max a b h l (inl e) = omega arith
one_max a b h l (inr e) = omega arith

min_one : (a b : ℕ) → a < 2 → b < 2 → min a b ≡ 1 → (a ≡ 1) × (b ≡ 1)
min_one a b h l e = omega arith

one_min : (a b : ℕ) → (a ≡ 1) × (b ≡ 1) → min a b ≡ 1
one_min a b e = omega (arith, e.0, e.1)

min_below : (a b : ℕ) → a < 2 → min a b < 2
min_below a b h = omega arith

max_below : (a b : ℕ) → a < 2 → b < 2 → max a b < 2
max_below a b h l = omega arith

not_one : {a : ℕ} → a ≡ 0 → a ≡ 1 → ⊥
not_one p q = omega arith

-- ---- the laws of sets and matrices at every label, in range or not

pub by_range : {x y : ℕ} (l c : ℕ) → (l < c → x ≡ y) → (c ≤ l → x ≡ y) → x ≡ y
by_range {x} {y} l c inside beyond = go (dec_lt l c)
  where
    go : Dec (l < c) → x ≡ y
    go (yes h) = inside h
    go (no h) = beyond (omega arith)

module _ (w : ℕ) where
  member_outside : {s : List ℕ} → Sized w s → (l : ℕ) → label_ceiling w ≤ l → member s l ≡ 0
  member_outside {s} z l h = member_beyond s l (omega (arith, z.size))

  label_outside : {m : List ℕ} → Sized (matrix_words w) m → (i j : ℕ) → label_ceiling w ≤ i → marked w m i j ≡ 0
  label_outside {m} z i j h = marked_beyond_label w m i j (le_of_eq z.size) h

  pub union_members : {a b : List ℕ} → Sized w a → Sized w b → (l : ℕ) → member (union w a b) l ≡ max (member a l) (member b l)
  union_members {a} {b} x y l =
      by_range l (label_ceiling w) (member_union w a b l x.size)
      (λ h. member_outside (sized_joined x y) l h ∙ sym (ap₂ max (member_outside x l h) (member_outside y l h)))

  pub merged_marks :
      {m n : List ℕ} → Sized (matrix_words w) m → Sized (matrix_words w) n → (i j : ℕ)
      → marked w (merged w m n) i j ≡ max (marked w m i j) (marked w n i j)
  merged_marks {m} {n} x y i j =
      by_range j (label_ceiling w)
      (λ l. by_range i (label_ceiling w) (λ h. marked_merged w m (le_of_eq (sym x.size)) n i j h l)
      (λ h. label_outside (sized_joined x y) i j h ∙ sym (ap₂ max (label_outside x i j h) (label_outside y i j h))))
      (λ l. let beyond : (s : List ℕ) → marked w s i j ≡ 0 = λ s. marked_beyond_partner w s i j l in
      beyond (merged w m n) ∙ sym (ap₂ max (beyond m) (beyond n)))

  pub crossed_marks :
      {a b m : List ℕ} → Sized w a → Sized w b → Sized (matrix_words w) m → (i j : ℕ)
      → marked w (crossed w a b m) i j ≡ max (marked w m i j) (max (min (member a i) (member b j)) (min (member b i) (member a j)))
  crossed_marks {a} {b} {m} x y z i j =
      by_range j (label_ceiling w)
      (λ l. by_range i (label_ceiling w) (λ h. marked_crossed w m (le_of_eq (sym z.size)) a b i j h l)
      (λ h. label_outside (sized_crossed x y z) i j h
      ∙ none_added (label_outside z i j h)
      (ap (λ (k : ℕ). min k (member b j)) (member_outside x i h) ∙ zero-min (member b j))
      (ap (λ (k : ℕ). min k (member a j)) (member_outside y i h) ∙ zero-min (member a j))))
      (λ l. marked_beyond_partner w (crossed w a b m) i j l
      ∙ none_added (marked_beyond_partner w m i j l)
      (ap (λ (k : ℕ). min (member a i) k) (member_outside y j l) ∙ min-zero (member a i))
      (ap (λ (k : ℕ). min (member b i) k) (member_outside x j l) ∙ min-zero (member b i)))
    where
      none_added : {p q r : ℕ} → p ≡ 0 → q ≡ 0 → r ≡ 0 → 0 ≡ max p (max q r)
      none_added d e f = sym (ap₂ max d (ap₂ max e f))

-- ---- rule by rule

-- two summaries of the same sets
pub record Same (x y : Summary) : Type 0 where
  pub into : Inside x y
  pub back : Inside y x

pub same_refl : (x : Summary) → Same x x
same_refl x = record { into = inside_refl x; back = inside_refl x }

pub same_trans : {x y z : Summary} → Same x y → Same y z → Same x z
same_trans p q = record { into = inside_trans p.into q.into; back = inside_trans q.back p.back }

module _ (w : ℕ) where
  crossing_means :
      {a b m : List ℕ} → Sized w a → Sized w b → Sized (matrix_words w) m → (i j : ℕ)
      → marked w (crossed w a b m) i j ≡ 1 → (marked w m i j ≡ 1) ⊎ rules.Symcross (λ l. member a l ≡ 1) (λ l. member b l ≡ 1) i j
  crossing_means {a} {b} {m} x y z i j e =
      ⊎_map (λ p. p)
      (λ q. ⊎_map (min_one (member a i) (member b j) (member_lt a i) (member_lt b j)) (min_one (member b i) (member a j) (member_lt b i) (member_lt a j))
      (max_one (min (member a i) (member b j)) (min (member b i) (member a j)) (min_below (member a i) (member b j) (member_lt a i)) q))
      (max_one (marked w m i j) (max (min (member a i) (member b j)) (min (member b i) (member a j))) (marked_lt w m i j) (sym (crossed_marks w x y z i j) ∙ e))

  means_crossing :
      {a b m : List ℕ} → Sized w a → Sized w b → Sized (matrix_words w) m → (i j : ℕ)
      → (marked w m i j ≡ 1) ⊎ rules.Symcross (λ l. member a l ≡ 1) (λ l. member b l ≡ 1) i j → marked w (crossed w a b m) i j ≡ 1
  means_crossing {a} {b} {m} x y z i j e =
      let p = min_below (member a i) (member b j) (member_lt a i) in
      let q = min_below (member b i) (member a j) (member_lt b i) in
      crossed_marks w x y z i j
      ∙ one_max (marked w m i j) (max (min (member a i) (member b j)) (min (member b i) (member a j))) (marked_lt w m i j) (max_below _ _ p q)
      (⊎_map (λ h. h)
      (λ c. one_max (min (member a i) (member b j)) (min (member b i) (member a j)) p q
      (⊎_map (one_min (member a i) (member b j)) (one_min (member b i) (member a j)) c))
      e)

  pub empty_means : Same (meaning w (empty_words w)) rules.nothing
  empty_means =
      record {
        into =
            record {
              M = λ i j e. not_one (marked_none w i j) e;
              O = λ l e. not_one (member_none w l) e;
              L = λ l e. not_one (member_none w l) e;
            };
        back = record { M = λ i j e. absurd e; O = λ l e. absurd e; L = λ l e. absurd e };
      }

  step_means : (k : ℕ) → k < label_ceiling w → Same (meaning w (step_words w k)) (rules.stepped k)
  step_means k h =
      record {
        into =
            record {
              M = λ i j e. not_one (marked_none w i j) e;
              O = λ l e. not_one (member_none w l) e;
              L = λ l e. is_label (sym (member_single w k l h) ∙ e) (ℕ_discrete k l);
            };
        back =
            record {
              M = λ i j e. absurd e;
              O = λ l e. absurd e;
              L = λ l e. member_single w k l h ∙ ap one_if (eq-eqb k l e);
            };
      }
    where
      is_label : {l : ℕ} → one_if (eqb k l) ≡ 1 → Dec (k ≡ l) → k ≡ l
      is_label e (yes p) = p
      is_label {l} e (no p) = absurd (not_one (ap one_if (ne_eqb k l p)) e)

  join_means :
      {x y : WordSummary} → Shaped w x → Shaped w y → Same (meaning w (followed_words w x y)) (rules.followed (meaning w x) (meaning w y))
  join_means {x} {y} p q =
      record {
        into =
            record {
              M = λ i j e. regroup (⊎_map (both_marks i j) (λ c. c) (crossing_means p.O q.L (sized_joined p.M q.M) i j e));
              O = λ l e. max_one (member x.O l) (member y.O l) (member_lt x.O l) (sym (union_members w p.O q.O l) ∙ e);
              L = λ l e. max_one (member x.L l) (member y.L l) (member_lt x.L l) (sym (union_members w p.L q.L l) ∙ e);
            };
        back =
            record {
              M = λ i j e. means_crossing p.O q.L (sized_joined p.M q.M) i j (⊎_map (marks_both i j) (λ c. c) (ungroup e));
              O = λ l e. union_members w p.O q.O l ∙ one_max (member x.O l) (member y.O l) (member_lt x.O l) (member_lt y.O l) e;
              L = λ l e. union_members w p.L q.L l ∙ one_max (member x.L l) (member y.L l) (member_lt x.L l) (member_lt y.L l) e;
            };
      }
    where
      regroup : {A B C : Type 0} → (A ⊎ B) ⊎ C → A ⊎ (B ⊎ C)
      regroup (inl (inl a)) = inl a
      regroup (inl (inr b)) = inr (inl b)
      regroup (inr c) = inr (inr c)

      ungroup : {A B C : Type 0} → A ⊎ (B ⊎ C) → (A ⊎ B) ⊎ C
      ungroup (inl a) = inl (inl a)
      ungroup (inr (inl b)) = inl (inr b)
      ungroup (inr (inr c)) = inr c

      both_marks : (i j : ℕ) → marked w (merged w x.M y.M) i j ≡ 1 → (marked w x.M i j ≡ 1) ⊎ (marked w y.M i j ≡ 1)
      both_marks i j e = max_one (marked w x.M i j) (marked w y.M i j) (marked_lt w x.M i j) (sym (merged_marks w p.M q.M i j) ∙ e)

      marks_both : (i j : ℕ) → (marked w x.M i j ≡ 1) ⊎ (marked w y.M i j ≡ 1) → marked w (merged w x.M y.M) i j ≡ 1
      marks_both i j e =
          merged_marks w p.M q.M i j
          ∙ one_max (marked w x.M i j) (marked w y.M i j) (marked_lt w x.M i j) (marked_lt w y.M i j) e

  loop_means : {x : WordSummary} → Shaped w x → Same (meaning w (looped_words w x)) (rules.looped (meaning w x))
  loop_means p =
      record {
        into = record { M = crossing_means p.O p.L p.M; O = λ l e. e; L = λ l e. e };
        back = record { M = means_crossing p.O p.L p.M; O = λ l e. e; L = λ l e. e };
      }

  wait_means : (x : WordSummary) → Same (meaning w (waited_words w x)) (rules.waited (meaning w x))
  wait_means x =
      record {
        into = record { M = λ i j e. e; O = λ l e. not_one (member_none w l) e; L = λ l e. e };
        back = record { M = λ i j e. e; O = λ l e. absurd e; L = λ l e. e };
      }

-- every label that stands in the statement is below c
abbrev pub LabelsBelow : ℕ → Stmt → Type 0
LabelsBelow c skip = Unit {0}
LabelsBelow c (step l) = l < c
LabelsBelow c (seq s t) = LabelsBelow c s × LabelsBelow c t
LabelsBelow c (loop s) = LabelsBelow c s
LabelsBelow c (async s) = LabelsBelow c s
LabelsBelow c (finish s) = LabelsBelow c s
LabelsBelow c (call f) = Unit {0}

-- the words of a statement mean its sets, where those of the procedures mean theirs
pub words_mean_sets :
    (w : ℕ) (B : ℕ → WordSummary) → ((f : ℕ) → Shaped w (B f)) → (s : Stmt) → LabelsBelow (label_ceiling w) s
    → Same (meaning w (words_of w B s)) (summary_of (λ f. meaning w (B f)) s)
words_mean_sets w B b skip h = empty_means w
words_mean_sets w B b (step l) h = step_means w l h
words_mean_sets w B b (seq s t) h =
    let p = words_mean_sets w B b s h.0 in
    let q = words_mean_sets w B b t h.1 in
    same_trans (join_means w (shaped w B b s) (shaped w B b t))
    (record { into = joined_inside p.into q.into; back = joined_inside p.back q.back })
words_mean_sets w B b (loop s) h =
    let p = words_mean_sets w B b s h in
    same_trans (loop_means w (shaped w B b s)) (record { into = looped_inside p.into; back = looped_inside p.back })
words_mean_sets w B b (async s) h =
    let p = words_mean_sets w B b s h in record { into = spawned_inside p.into; back = spawned_inside p.back }
words_mean_sets w B b (finish s) h =
    let p = words_mean_sets w B b s h in
    same_trans (wait_means w (words_of w B s)) (record { into = waited_inside p.into; back = waited_inside p.back })
words_mean_sets w B b (call f) h = same_refl (meaning w (B f))
