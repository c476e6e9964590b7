-- After 3n rounds of n procedures nothing changes: L at a label depends on L at that label alone, O at a label on O there and on L, M at a pair on M there
-- and on O and L; so each is a growing family of n yes/no values, whose repeats last from round 0, n and 2n on. Assumes nothing.
use mathlib.Core.Path.{◌≡◌, refl, sym, ap, ap₂, ◌∙◌, subst}
use mathlib.Core.Bool.{true, ◌&&◌, and-eq-true_iff}
use mathlib.Core.List.{List}
use Prim.Native.Nat.{ℕ, zero, suc, ◌+◌, ◌*◌, ◌≤◌, ◌<◌, min, max}
use native.Mathlib.Nat.{le_refl, le_of_eq}
use native.Mathlib.Decide.{dec_lt}
use native.Mathlib.Omega.{arith}
use lib.ListN.{length, get_or, get_or-eq_default}
use lib.Seq.{ext_get_or}
use Rattle.numbers.specs.Sizes.{label_ceiling, matrix_words}
use Rattle.numbers.proofs.EveryLaws.{every_passes, passes_every}
use Rattle.labels.specs.Words.{alike}
use Rattle.labels.specs.Sets.{member, union}
use Rattle.labels.proofs.SetLaws.{member_lt, member_none, member_union, members_make_the_set}
use Rattle.labels.proofs.AlikeLaws.{alike_same_words, same_words_alike}
use Rattle.matrix.specs.Matrix.{marked, merged, crossed}
use Rattle.matrix.proofs.MatrixLaws.{marked_lt, marked_none, marked_merged, marked_crossed, marks_make_the_matrix}
use Rattle.calculus.specs.Syntax.{Stmt, skip, step, seq, loop, async, finish, call, Program, body}
use Rattle.analysis.specs.Summaries.{WordSummary, empty_words, words_of}
use Rattle.analysis.specs.Rounds.{after, same_words, settled}
use Rattle.analysis.proofs.Shape.{Sized, Shaped, by_parts, shaped, shaped_after, sized_joined}
use Rattle.analysis.proofs.Growth.{grown}

-- A relation between numbers that max and min keep, as `◌≤◌` and `◌≡◌` are.
pub record KeptByMaxMin (R : ℕ → ℕ → Type 0) : Type 0 where
  pub same : (a : ℕ) → R a a
  pub either : {a b c d : ℕ} → R a c → R b d → R (max a b) (max c d)
  pub both : {a b c d : ℕ} → R a c → R b d → R (min a b) (min c d)

pub order_kept : KeptByMaxMin ◌≤◌
order_kept = record { same = le_refl; either = λ p q. omega arith; both = λ p q. omega arith }

pub equality_kept : KeptByMaxMin ◌≡◌
equality_kept = record { same = λ a. refl; either = ap₂ max; both = ap₂ min }

whole : {n : ℕ} {m : List ℕ} → Sized n m → n ≤ length m
whole s = le_of_eq (sym s.size)

sized_beyond : {n : ℕ} {s : List ℕ} → Sized n s → (k : ℕ) → n ≤ k → get_or s k 0 ≡ 0
sized_beyond {n} {s} x k past = get_or-eq_default s 0 {n = k} (subst (λ (m : ℕ). m ≤ k) (sym x.size) past)

-- What is so related for the procedures is so related for every statement.
module _
    (R : ℕ → ℕ → Type 0)
    (kept : KeptByMaxMin R)
    (w : ℕ)
    (B C : ℕ → WordSummary)
    (b : (f : ℕ) → Shaped w (B f))
    (c : (f : ℕ) → Shaped w (C f))
  where
    union_kept :
        (l : ℕ) (u v x y : List ℕ) → l < label_ceiling w → Sized w u → Sized w x
        → R (member u l) (member x l) → R (member v l) (member y l) → R (member (union w u v) l) (member (union w x y) l)
    union_kept l u v x y h su sx p q =
        rw (member_union w u v l su.size h, member_union w x y l sx.size h) (kept.either p q)

    crossed_kept :
        (i j : ℕ) (u v m x y n : List ℕ) → i < label_ceiling w → j < label_ceiling w → Sized (matrix_words w) m → Sized (matrix_words w) n
        → ((l : ℕ) → l < label_ceiling w → R (member u l) (member x l)) → ((l : ℕ) → l < label_ceiling w → R (member v l) (member y l))
        → R (marked w m i j) (marked w n i j) → R (marked w (crossed w u v m) i j) (marked w (crossed w x y n) i j)
    crossed_kept i j u v m x y n hi hj sm sn p q r =
        rw (marked_crossed w m (whole sm) u v i j hi hj, marked_crossed w n (whole sn) x y i j hi hj)
        (kept.either r (kept.either (kept.both (p i hi) (q j hj)) (kept.both (q i hi) (p j hj))))

    merged_kept :
        (i j : ℕ) (m n m' n' : List ℕ) → i < label_ceiling w → j < label_ceiling w → Sized (matrix_words w) m → Sized (matrix_words w) m'
        → R (marked w m i j) (marked w m' i j) → R (marked w n i j) (marked w n' i j)
        → R (marked w (merged w m n) i j) (marked w (merged w m' n') i j)
    merged_kept i j m n m' n' hi hj sm sm' p q =
        rw (marked_merged w m (whole sm) n i j hi hj, marked_merged w m' (whole sm') n' i j hi hj) (kept.either p q)

    -- L at a label depends on L at that label
    pub runs_kept :
        (l : ℕ) → l < label_ceiling w → ((f : ℕ) → R (member (B f).L l) (member (C f).L l))
        → (s : Stmt) → R (member (words_of w B s).L l) (member (words_of w C s).L l)
    runs_kept l h runs skip = kept.same _
    runs_kept l h runs (step k) = kept.same _
    runs_kept l h runs (seq s t) =
        union_kept l _ _ _ _ h (shaped w B b s).L (shaped w C c s).L (runs_kept l h runs s) (runs_kept l h runs t)
    runs_kept l h runs (loop s) = runs_kept l h runs s
    runs_kept l h runs (async s) = runs_kept l h runs s
    runs_kept l h runs (finish s) = runs_kept l h runs s
    runs_kept l h runs (call f) = runs f

    module _ (runs : (l : ℕ) → l < label_ceiling w → (f : ℕ) → R (member (B f).L l) (member (C f).L l)) where
      -- O at a label depends on O at that label, and on L
      pub stays_kept :
          (l : ℕ) → l < label_ceiling w → ((f : ℕ) → R (member (B f).O l) (member (C f).O l))
          → (s : Stmt) → R (member (words_of w B s).O l) (member (words_of w C s).O l)
      stays_kept l h stays skip = kept.same _
      stays_kept l h stays (step k) = kept.same _
      stays_kept l h stays (seq s t) =
          union_kept l _ _ _ _ h (shaped w B b s).O (shaped w C c s).O (stays_kept l h stays s) (stays_kept l h stays t)
      stays_kept l h stays (loop s) = stays_kept l h stays s
      stays_kept l h stays (async s) = runs_kept l h (runs l h) s
      stays_kept l h stays (finish s) = kept.same _
      stays_kept l h stays (call f) = stays f

      module _ (stays : (l : ℕ) → l < label_ceiling w → (f : ℕ) → R (member (B f).O l) (member (C f).O l)) where
        across :
            (i j : ℕ) → i < label_ceiling w → j < label_ceiling w → (s t : Stmt) (m n : List ℕ) → Sized (matrix_words w) m → Sized (matrix_words w) n
            → R (marked w m i j) (marked w n i j)
            → R (marked w (crossed w (words_of w B s).O (words_of w B t).L m) i j) (marked w (crossed w (words_of w C s).O (words_of w C t).L n) i j)
        across i j hi hj s t m n sm sn r =
            crossed_kept i j _ _ m _ _ n hi hj sm sn (λ l h. stays_kept l h (stays l h) s) (λ l h. runs_kept l h (runs l h) t) r

        -- M at a pair depends on M at that pair, and on O and L
        pub meets_kept :
            (i j : ℕ) → i < label_ceiling w → j < label_ceiling w → ((f : ℕ) → R (marked w (B f).M i j) (marked w (C f).M i j))
            → (s : Stmt) → R (marked w (words_of w B s).M i j) (marked w (words_of w C s).M i j)
        meets_kept i j hi hj meets skip = kept.same _
        meets_kept i j hi hj meets (step k) = kept.same _
        meets_kept i j hi hj meets (seq s t) =
            let x = (shaped w B b s).M in
            let y = (shaped w C c s).M in
            across i j hi hj s t _ _ (sized_joined x (shaped w B b t).M) (sized_joined y (shaped w C c t).M)
            (merged_kept i j _ _ _ _ hi hj x y (meets_kept i j hi hj meets s) (meets_kept i j hi hj meets t))
        meets_kept i j hi hj meets (loop s) =
            across i j hi hj s s _ _ (shaped w B b s).M (shaped w C c s).M (meets_kept i j hi hj meets s)
        meets_kept i j hi hj meets (async s) = meets_kept i j hi hj meets s
        meets_kept i j hi hj meets (finish s) = search (meets_kept i j hi hj meets s, kept.same)
        meets_kept i j hi hj meets (call f) = meets f

-- y has every label and every pair that x has.
pub record WordsInside (w : ℕ) (x y : WordSummary) : Type 0 where
  pub M : (i j : ℕ) → i < label_ceiling w → j < label_ceiling w → marked w x.M i j ≤ marked w y.M i j
  pub O : (l : ℕ) → l < label_ceiling w → member x.O l ≤ member y.O l
  pub L : (l : ℕ) → l < label_ceiling w → member x.L l ≤ member y.L l

pub empty_inside : (w : ℕ) (x : WordSummary) → WordsInside w (empty_words w) x
empty_inside w x =
    record {
      M = λ i j hi hj. omega (arith, marked_none w i j);
      O = λ l h. omega (arith, member_none w l);
      L = λ l h. omega (arith, member_none w l);
    }

-- more for the procedures gives more for every statement
pub monotone :
    (w : ℕ) (B C : ℕ → WordSummary) → ((f : ℕ) → Shaped w (B f)) → ((f : ℕ) → Shaped w (C f)) → ((f : ℕ) → WordsInside w (B f) (C f))
    → (s : Stmt) → WordsInside w (words_of w B s) (words_of w C s)
monotone w B C b c more s =
    let runs : (l : ℕ) → l < label_ceiling w → (f : ℕ) → member (B f).L l ≤ member (C f).L l = λ l h f. (more f).L l h in
    let stays : (l : ℕ) → l < label_ceiling w → (f : ℕ) → member (B f).O l ≤ member (C f).O l = λ l h f. (more f).O l h in
    record {
      M = λ i j hi hj. meets_kept ◌≤◌ order_kept w B C b c runs stays i j hi hj (λ f. (more f).M i j hi hj) s;
      O = λ l h. stays_kept ◌≤◌ order_kept w B C b c runs l h (stays l h) s;
      L = λ l h. runs_kept ◌≤◌ order_kept w B C b c l h (runs l h) s;
    }

sized_same :
    (w : ℕ) (a b : List ℕ) → Sized w a → Sized w b → ((l : ℕ) → l < label_ceiling w → member a l ≡ member b l) → a ≡ b
sized_same w a b x y same =
    members_make_the_set a b (x.size ∙ sym y.size) x.words y.words
    (λ l h. same l (subst (λ (n : ℕ). l < label_ceiling n) x.size h))

matrix_same :
    (w : ℕ) (m n : List ℕ) → Sized (matrix_words w) m → Sized (matrix_words w) n
    → ((i j : ℕ) → i < label_ceiling w → j < label_ceiling w → marked w m i j ≡ marked w n i j) → m ≡ n
matrix_same w m n x y same =
    marks_make_the_matrix w m n (x.size ∙ sym y.size) x.words y.words
    (λ k past. sized_beyond x k past ∙ sym (sized_beyond y k past)) same

-- two summaries with the same labels and pairs are equal
pub members_make_the_summary :
    (w : ℕ) (x y : WordSummary) → Shaped w x → Shaped w y
    → ((i j : ℕ) → i < label_ceiling w → j < label_ceiling w → marked w x.M i j ≡ marked w y.M i j)
    → ((l : ℕ) → l < label_ceiling w → member x.O l ≡ member y.O l)
    → ((l : ℕ) → l < label_ceiling w → member x.L l ≡ member y.L l) → x ≡ y
members_make_the_summary w x y a b meets stays runs =
    by_parts (matrix_same w x.M y.M a.M b.M meets) (sized_same w x.O y.O a.O b.O stays)
    (sized_same w x.L y.L a.L b.L runs)

alike_equal : {n : ℕ} {a b : List ℕ} → Sized n a → Sized n b → alike n a b ≡ true → a ≡ b
alike_equal {n} {a} {b} x y e =
    ext_get_or 0 a b (x.size ∙ sym y.size) (λ k h. alike_same_words a b n e k (subst (λ (m : ℕ). k < m) x.size h))

equal_alike : (n : ℕ) (a b : List ℕ) → a ≡ b → alike n a b ≡ true
equal_alike n a b e = same_words_alike a b n (λ k h. ap (λ (s : List ℕ). get_or s k 0) e)

-- `same_words` is equality
pub same_words_equal : (w : ℕ) (x y : WordSummary) → Shaped w x → Shaped w y → same_words w x y ≡ true → x ≡ y
same_words_equal w x y a b e =
    let all = (and-eq-true_iff (alike (matrix_words w) x.M y.M && alike w x.O y.O) (alike w x.L y.L)).0 e in
    let two = (and-eq-true_iff (alike (matrix_words w) x.M y.M) (alike w x.O y.O)).0 all.0 in
    by_parts (alike_equal a.M b.M two.0) (alike_equal a.O b.O two.1) (alike_equal a.L b.L all.1)

pub equal_same_words : (w : ℕ) (x y : WordSummary) → x ≡ y → same_words w x y ≡ true
equal_same_words w x y e =
    rw (
      equal_alike (matrix_words w) x.M y.M (ap (λ (z : WordSummary). z.M) e),
      equal_alike w x.O y.O (ap (λ (z : WordSummary). z.O) e),
      equal_alike w x.L y.L (ap (λ (z : WordSummary). z.L) e),
    )

module _ (w : ℕ) (p : Program) where
  -- a round has all that the round before it has
  pub grows : (k f : ℕ) → WordsInside w (after w p k f) (after w p (suc k) f)
  unfolding after
  grows zero f = empty_inside w (after w p (suc zero) f)
  grows (suc k) f =
      monotone w (after w p k) (after w p (suc k)) (shaped_after w p k) (shaped_after w p (suc k)) (grows k) (body p f)

  -- past the end the body is skip
  after_beyond : (k f : ℕ) → length p ≤ f → after w p k f ≡ empty_words w
  unfolding after
  after_beyond zero f past = refl
  after_beyond (suc k) f past = ap (words_of w (after w p k)) (get_or-eq_default p skip {n = f} past)

  pub repeats_beyond : (k f : ℕ) → length p ≤ f → after w p (suc k) f ≡ after w p k f
  repeats_beyond k f past = after_beyond (suc k) f past ∙ sym (after_beyond k f past)

  -- a yes/no value of the summaries, of which a repeat lasts from round `start` on, is final n rounds later
  value_final :
      (start : ℕ) (value : WordSummary → ℕ) → ((x : WordSummary) → value x < 2)
      → ((k f : ℕ) → value (after w p k f) ≤ value (after w p (suc k) f))
      → ((k : ℕ) → start ≤ k → ((f : ℕ) → value (after w p (suc k) f) ≡ value (after w p k f))
      → (s : Stmt) → value (words_of w (after w p (suc k)) s) ≡ value (words_of w (after w p k) s))
      → (k : ℕ) → start + length p ≤ k → (f : ℕ) → value (after w p (suc k) f) ≡ value (after w p k f)
  unfolding after
  value_final start value bits more lasts =
      grown (length p) start (λ k f. value (after w p k f)) (λ k f. bits (after w p k f)) more
      (λ k f past. ap value (repeats_beyond k f past))
      (λ k started e f. lasts k started e (body p f))

  pub runs_final :
      (l : ℕ) → l < label_ceiling w → (k : ℕ) → length p ≤ k → (f : ℕ) → member (after w p (suc k) f).L l ≡ member (after w p k f).L l
  runs_final l h k past =
      value_final 0 (λ x. member x.L l) (λ x. member_lt x.L l) (λ k f. (grows k f).L l h)
      (λ k started e. runs_kept ◌≡◌ equality_kept w _ _ (shaped_after w p (suc k)) (shaped_after w p k) l h e)
      k (omega arith)

  pub stays_final :
      (l : ℕ) → l < label_ceiling w → (k : ℕ) → 2 * length p ≤ k → (f : ℕ) → member (after w p (suc k) f).O l ≡ member (after w p k f).O l
  stays_final l h k past =
      value_final (length p) (λ x. member x.O l) (λ x. member_lt x.O l) (λ k f. (grows k f).O l h)
      (λ k started e. stays_kept ◌≡◌ equality_kept w _ _ (shaped_after w p (suc k)) (shaped_after w p k)
      (λ l h. runs_final l h k started) l h e)
      k (omega arith)

  pub meets_final :
      (i j : ℕ) → i < label_ceiling w → j < label_ceiling w → (k : ℕ) → 3 * length p ≤ k
      → (f : ℕ) → marked w (after w p (suc k) f).M i j ≡ marked w (after w p k f).M i j
  meets_final i j hi hj k past =
      value_final (2 * length p) (λ x. marked w x.M i j) (λ x. marked_lt w x.M i j) (λ k f. (grows k f).M i j hi hj)
      (λ k started e. meets_kept ◌≡◌ equality_kept w _ _ (shaped_after w p (suc k)) (shaped_after w p k)
      (λ l h. runs_final l h k (omega arith)) (λ l h. stays_final l h k started) i j hi hj e)
      k (omega arith)

  -- after 3n rounds nothing changes
  pub final : (k : ℕ) → 3 * length p ≤ k → (f : ℕ) → after w p (suc k) f ≡ after w p k f
  final k past f =
      members_make_the_summary w (after w p (suc k) f) (after w p k f) (shaped_after w p (suc k) f) (shaped_after w p k f)
      (λ i j hi hj. meets_final i j hi hj k past f)
      (λ l h. stays_final l h k (omega arith) f)
      (λ l h. runs_final l h k (omega arith) f)

  -- `settled` is a repeat of every procedure
  pub settled_repeats : (k : ℕ) → settled w p k ≡ true → (f : ℕ) → after w p (suc k) f ≡ after w p k f
  settled_repeats k e f = either (dec_lt f (length p))
    where
      either : Dec (f < length p) → after w p (suc k) f ≡ after w p k f
      either (yes below) =
          same_words_equal w _ _ (shaped_after w p (suc k) f) (shaped_after w p k f)
          (every_passes (λ f. same_words w (after w p (suc k) f) (after w p k f)) (length p) e f below)
      either (no past) = repeats_beyond k f (omega arith)

  pub repeats_settled : (k : ℕ) → ((f : ℕ) → after w p (suc k) f ≡ after w p k f) → settled w p k ≡ true
  repeats_settled k e =
      passes_every (λ f. same_words w (after w p (suc k) f) (after w p k f)) (length p)
      (λ f below. equal_same_words w _ _ (e f))

  pub final_settled : (k : ℕ) → 3 * length p ≤ k → settled w p k ≡ true
  final_settled k past = repeats_settled k (final k past)
