-- Marks after a crossing, a merge and a clearing, and that marks make the matrix: the pair (i,j) is bit j mod 64 of word i * w + j / 64,
-- over the number of words w.
-- Assumes nothing.
use mathlib.Core.Path.{◌≡◌, refl, sym, ap, ap₂, ◌∙◌, subst}
use mathlib.Core.Logic.{⊎_elim}
use mathlib.Core.List.{List, [], ◌∷◌, ◌++◌}
use Prim.Native.Nat.{ℕ, zero, suc, ◌+◌, ◌-◌, ◌*◌, ◌/◌, ◌%◌, ◌^◌, ◌≤◌, ◌<◌, zero-le, min, max}
use native.Mathlib.Nat.{le_trans, max_comm, min_comm, suc-mul, mul-zero, mul-le-mul_right, mul-add-div_right, mul-add-mod_self_right, div-eq_of_lt}
use native.Mathlib.Nat.{mod-eq_of_lt, mod-lt, add-zero, div-add-mod', div-lt_iff_lt-mul, lt_of_lt_of_le, eq-zero-or-pos, not-suc-le-zero}
use native.Mathlib.Nat.{le_of_suc-le-suc, zero-sub, sub-zero, suc-sub-suc}
use native.Mathlib.Decide.{dec_lt, dec_le}
use native.Mathlib.Omega.{arith}
use lib.Bits.{bit_or, or_lt}
use lib.Dec.{lit<}
use lib.ListN.{length, get_or, take, drop, replicate, length-take, length-append, length-drop, drop_of_length-le, get_or-append}
use borrow.Rule.Slice.PartMut.{put_mid}
use lib.Seq.{take_all, drop-drop, ext_get_or, get_or-take, get_or-drop, take-nil}
use Rattle.std.proofs.lemmas.List.{length-take-le, take_at}
use Rattle.std.proofs.lemmas.Slice.{drop-append-drop}
use Rattle.numbers.specs.General.{laid}
use Rattle.numbers.specs.Sizes.{word_bits, label_ceiling, matrix_words}
use Rattle.labels.specs.Words.{bit, Words, changed}
use Rattle.labels.specs.Sets.{member, none, joined}
use Rattle.matrix.specs.Matrix.{partners, marked, merged, crossed}
use Rattle.matrix.specs.Inner.{cleared, copied}
use Rattle.labels.proofs.BitLaws.{bit_of_or, bit_times, bit_of_zero, bits_make_the_word}
use Rattle.labels.proofs.ChangedLaws.{length_changed, changed_below, words_changed}
use Rattle.labels.proofs.SetLaws.{member_lt, member_beyond, get_or_none}

pub marked_lt : (w : ℕ) (m : List ℕ) (i j : ℕ) → marked w m i j < 2
unfolding marked
marked_lt w m i j = member_lt (partners w m i) j

-- where the pair (i,j) stands
pub marked_at : (w : ℕ) (m : List ℕ) (i j : ℕ) → j < label_ceiling w → marked w m i j ≡ bit (get_or m (i * w + j / word_bits) 0) (j % word_bits)
unfolding marked member
marked_at w m i j h =
    ap (λ (x : ℕ). bit x (j % word_bits))
    (get_or-take w (drop (i * w) m) (j / word_bits) 0 (omega arith) ∙ get_or-drop (i * w) m (j / word_bits) 0)

-- no pair stands past the last label, on either side
pub marked_beyond_label :
    (w : ℕ) (m : List ℕ) (i j : ℕ) → length m ≤ matrix_words w → label_ceiling w ≤ i → marked w m i j ≡ 0
unfolding marked
marked_beyond_label w m i j size h =
    ap (λ (s : List ℕ). member (take w s) j) (drop_of_length-le m {i = i * w} (le_trans size (mul-le-mul_right w h)))
    ∙ ap (λ (s : List ℕ). member s j) (take-nil w)
    ∙ member_beyond [] j zero-le

pub marked_beyond_partner : (w : ℕ) (m : List ℕ) (i j : ℕ) → label_ceiling w ≤ j → marked w m i j ≡ 0
unfolding marked
marked_beyond_partner w m i j h =
    member_beyond (partners w m i) j (omega (arith, length-take w (drop (i * w) m)))

-- nothing is marked in a matrix of zeros
pub marked_none : (w i j : ℕ) → marked w (none (matrix_words w)) i j ≡ 0
marked_none w i j = go (dec_lt j (label_ceiling w))
  where
    go : Dec (j < label_ceiling w) → marked w (none (matrix_words w)) i j ≡ 0
    go (yes h) =
        marked_at w (none (matrix_words w)) i j h
        ∙ ap (λ (x : ℕ). bit x (j % word_bits)) (get_or_none (matrix_words w) (i * w + j / word_bits))
        ∙ bit_of_zero (j % word_bits)
    go (no h) = marked_beyond_partner w (none (matrix_words w)) i j (omega arith)

member_word : (s : List ℕ) (l : ℕ) → member s l ≡ bit (get_or s (l / word_bits) 0) (l % word_bits)
unfolding member
member_word s l = refl

place_below : (w i q : ℕ) → i < label_ceiling w → q < w → i * w + q < matrix_words w
place_below w i q h l = omega (arith, mul-le-mul_right w h, suc-mul i w)

place_label : (w i q : ℕ) → q < w → (i * w + q) / w ≡ i
place_label w i q l =
    mul-add-div_right (omega arith) i q ∙ ap (λ (x : ℕ). i + x) (div-eq_of_lt l) ∙ add-zero i

place_word : (w i q : ℕ) → q < w → (i * w + q) % w ≡ q
place_word w i q l = mul-add-mod_self_right i w q ∙ mod-eq_of_lt l

module _ (w : ℕ) (m : List ℕ) (whole : matrix_words w ≤ length m) where
  marked_changed :
      (f : ℕ → ℕ → ℕ) (i j : ℕ) → i < label_ceiling w → j < label_ceiling w
      → marked w (changed (matrix_words w) f m) i j ≡ bit (f (i * w + j / word_bits) (get_or m (i * w + j / word_bits) 0)) (j % word_bits)
  marked_changed f i j hi hj =
      let place : i * w + j / word_bits < matrix_words w = place_below w i (j / word_bits) hi (omega arith) in
      marked_at w (changed (matrix_words w) f m) i j hj
      ∙ ap (λ (x : ℕ). bit x (j % word_bits)) (changed_below (matrix_words w) f m (i * w + j / word_bits) place (lt_of_lt_of_le place whole))

  pub marked_cleared : (i j : ℕ) → i < label_ceiling w → j < label_ceiling w → marked w (cleared w m) i j ≡ 0
  unfolding cleared
  marked_cleared i j hi hj = marked_changed (λ k x. 0) i j hi hj ∙ bit_of_zero (j % word_bits)

  pub marked_merged :
      (n : List ℕ) (i j : ℕ) → i < label_ceiling w → j < label_ceiling w → marked w (merged w m n) i j ≡ max (marked w m i j) (marked w n i j)
  unfolding joined
  marked_merged n i j hi hj =
      marked_changed (λ k x. bit_or x (get_or n k 0)) i j hi hj
      ∙ bit_of_or (get_or m (i * w + j / word_bits) 0) (get_or n (i * w + j / word_bits) 0) (j % word_bits)
      ∙ sym (ap₂ max (marked_at w m i j hj) (marked_at w n i j hj))

  -- a pair is marked after the crossing if it was before, or joins a label of a with one of b, either way round
  pub marked_crossed :
      (a b : List ℕ) (i j : ℕ) → i < label_ceiling w → j < label_ceiling w
      → marked w (crossed w a b m) i j ≡ max (marked w m i j) (max (min (member a i) (member b j)) (min (member b i) (member a j)))
  unfolding crossed
  marked_crossed a b i j hi hj =
      let q = j / word_bits in
      let r = j % word_bits in
      let k = i * w + q in
      let below : q < w = omega arith in
      let one : (c d : List ℕ) → bit (member c (k / w) * get_or d (k % w) 0) r ≡ min (member c i) (member d j)
      = λ c d. bit_times (member c (k / w)) (get_or d (k % w) 0) r (member_lt c (k / w))
      ∙ ap₂ (λ (x y : ℕ). min (member c x) (bit (get_or d y 0) r)) (place_label w i q below) (place_word w i q below)
      ∙ ap (λ (x : ℕ). min (member c i) x) (sym (member_word d j)) in
      marked_changed (λ k x. bit_or x (bit_or (member a (k / w) * get_or b (k % w) 0) (member b (k / w) * get_or a (k % w) 0))) i j hi hj
      ∙ bit_of_or (get_or m k 0) (bit_or (member a (k / w) * get_or b (k % w) 0) (member b (k / w) * get_or a (k % w) 0)) r
      ∙ ap₂ max (sym (marked_at w m i j hj))
      (bit_of_or (member a (k / w) * get_or b (k % w) 0) (member b (k / w) * get_or a (k % w) 0) r ∙ ap₂ max (one a b) (one b a))

  pub crossed_symmetric :
      (a b : List ℕ) (i j : ℕ) → i < label_ceiling w → j < label_ceiling w
      → marked w m i j ≡ marked w m j i → marked w (crossed w a b m) i j ≡ marked w (crossed w a b m) j i
  crossed_symmetric a b i j hi hj e =
      marked_crossed a b i j hi hj
      ∙ ap₂ max e
      (ap₂ max (min_comm (member a i) (member b j)) (min_comm (member b i) (member a j))
      ∙ max_comm (min (member b j) (member a i)) (min (member a j) (member b i)))
      ∙ sym (marked_crossed a b j i hj hi)

max_monotone : {a b c d : ℕ} → a ≤ c → b ≤ d → max a b ≤ max c d
max_monotone p q = omega arith

min_monotone : {a b c d : ℕ} → a ≤ c → b ≤ d → min a b ≤ min c d
min_monotone p q = omega arith

-- the more stands in the sets and in the matrix, the more is marked after the crossing
pub crossed_monotone :
    (w : ℕ) (m m' a a' b b' : List ℕ) → matrix_words w ≤ length m → matrix_words w ≤ length m' → (i j : ℕ) → i < label_ceiling w → j < label_ceiling w
    → marked w m i j ≤ marked w m' i j → ((l : ℕ) → member a l ≤ member a' l) → ((l : ℕ) → member b l ≤ member b' l)
    → marked w (crossed w a b m) i j ≤ marked w (crossed w a' b' m') i j
crossed_monotone w m m' a a' b b' whole whole' i j hi hj p q r =
    let lower = marked_crossed w m whole a b i j hi hj in
    let upper = marked_crossed w m' whole' a' b' i j hi hj in
    let step = max_monotone p (max_monotone (min_monotone (q i) (r j)) (min_monotone (r i) (q j))) in
    subst (λ (x : ℕ). x ≤ marked w (crossed w a' b' m') i j) (sym lower)
    (subst (λ (x : ℕ). max (marked w m i j) (max (min (member a i) (member b j)) (min (member b i) (member a j))) ≤ x) (sym upper) step)

pub length_cleared : (w : ℕ) (m : List ℕ) → length (cleared w m) ≡ length m
unfolding cleared
length_cleared w m = length_changed (matrix_words w) (λ k x. 0) m

pub length_crossed : (w : ℕ) (a b m : List ℕ) → length (crossed w a b m) ≡ length m
unfolding crossed
length_crossed w a b m = length_changed (matrix_words w) _ m

pub words_cleared : (w : ℕ) (m : List ℕ) → Words m → Words (cleared w m)
unfolding cleared
words_cleared w m = words_changed (matrix_words w) (λ k x. 0) m (λ k x h. lit< tt)

-- a bit times a word is a word
pub times_fits : (t x : ℕ) → t < 2 → x < 2 ^ word_bits → t * x < 2 ^ word_bits
times_fits t x ht hx = omega (arith, mul-le-mul_right x (le_of_suc-le-suc ht), native.Mathlib.Nat.one-mul x)

pub words_crossed : (w : ℕ) (a b m : List ℕ) → Words a → Words b → Words m → Words (crossed w a b m)
unfolding crossed
words_crossed w a b m wa wb =
    words_changed (matrix_words w) _ m
    (λ k x h. or_lt word_bits x _ h
    (or_lt word_bits (member a (k / w) * get_or b (k % w) 0) (member b (k / w) * get_or a (k % w) 0)
    (times_fits (member a (k / w)) (get_or b (k % w) 0) (member_lt a (k / w)) (wb (k % w)))
    (times_fits (member b (k / w)) (get_or a (k % w) 0) (member_lt b (k / w)) (wa (k % w)))))

-- two matrices of the same length with the same marks, and the same words beyond them, are equal
pub marks_make_the_matrix :
    (w : ℕ) (m n : List ℕ) → length m ≡ length n → Words m → Words n
    → ((k : ℕ) → matrix_words w ≤ k → get_or m k 0 ≡ get_or n k 0)
    → ((i j : ℕ) → i < label_ceiling w → j < label_ceiling w → marked w m i j ≡ marked w n i j) → m ≡ n
marks_make_the_matrix w m n e wm wn beyond same =
    ext_get_or 0 m n e (λ k h. either k (dec_lt k (matrix_words w)))
  where
    inside : (k : ℕ) → k < matrix_words w → get_or m k 0 ≡ get_or n k 0
    inside k h =
        bits_make_the_word word_bits (get_or m k 0) (get_or n k 0) (wm k) (wn k)
        (λ b l. at m b l ∙ same (k / w) (k % w * word_bits + b) label (partner b l) ∙ sym (at n b l))
      where
        some : zero < w
        some =
            let no_word : w ≡ zero → matrix_words w ≡ zero = λ e. ap (λ (x : ℕ). label_ceiling w * x) e ∙ mul-zero (label_ceiling w) in
            ⊎_elim (λ e. absurd (not-suc-le-zero (subst (λ (x : ℕ). k < x) (no_word e) h))) (λ p. p) (eq-zero-or-pos w)

        label : k / w < label_ceiling w
        label = (div-lt_iff_lt-mul some).1 h

        partner : (b : ℕ) → b < word_bits → k % w * word_bits + b < label_ceiling w
        partner b l = omega (arith, mod-lt k some)

        at : (s : List ℕ) (b : ℕ) → b < word_bits → bit (get_or s k 0) b ≡ marked w s (k / w) (k % w * word_bits + b)
        at s b l =
            sym
            (marked_at w s (k / w) (k % w * word_bits + b) (partner b l)
            ∙ ap₂ (λ (x y : ℕ). bit (get_or s x 0) y)
            (ap (λ (q : ℕ). k / w * w + q) (omega arith) ∙ div-add-mod' k w)
            (omega arith))

    either : (k : ℕ) → Dec (k < matrix_words w) → get_or m k 0 ≡ get_or n k 0
    either k (yes h) = inside k h
    either k (no h) = beyond k (omega arith)

-- a copy puts the other matrix in the place of this one; words beyond stay
replaced : (n : ℕ) (f : ℕ → ℕ) (m x : List ℕ) → n ≤ length m → length x ≡ n → ((k : ℕ) → k < n → f k ≡ get_or x k 0)
    → changed n (λ k y. f k) m ≡ x ++ drop n m
unfolding changed
replaced zero f m [] h e same = refl
replaced zero f m (z ∷ x) h e same = absurd (omega arith)
replaced (suc n) f [] x h e same = absurd (omega arith)
replaced (suc n) f (y ∷ m) [] h e same = absurd (omega arith)
replaced (suc n) f (y ∷ m) (z ∷ x) h e same =
    ap₂ (λ (v : ℕ) (t : List ℕ). v ∷ t) (same zero (omega arith))
    (replaced n (λ k. f (suc k)) m x (le_of_suc-le-suc h) (omega arith) (λ k l. same (suc k) (omega arith)))

-- what is put in the place of the first n words, in two parts: the other matrix's words, and 0 for those that it lacks
pub cleared_front : (n : ℕ) (m : List ℕ) → n ≤ length m → replicate n 0 ++ drop n m ≡ changed n (λ k y. 0) m
unfolding changed
cleared_front zero m h = refl
cleared_front (suc n) [] h = absurd (omega arith)
cleared_front (suc n) (y ∷ m) h = ap (λ (t : List ℕ). 0 ∷ t) (cleared_front n m (le_of_suc-le-suc h))

copied_front :
    (n : ℕ) (x m : List ℕ) → n ≤ length m → take n x ++ (replicate (n - length x) 0 ++ drop n m) ≡ changed n (λ k y. get_or x k 0) m
unfolding changed
copied_front zero x m h = ap (λ (k : ℕ). replicate k 0 ++ m) (zero-sub (length x))
copied_front (suc n) [] m h =
    ap (λ (k : ℕ). replicate k 0 ++ drop (suc n) m) (sub-zero (suc n)) ∙ cleared_front (suc n) m h
copied_front (suc n) (z ∷ x) [] h = absurd (omega arith)
copied_front (suc n) (z ∷ x) (y ∷ m) h =
    ap (λ (t : List ℕ). z ∷ t)
    (ap (λ (k : ℕ). take n x ++ (replicate k 0 ++ drop n m)) (suc-sub-suc n (length x)) ∙ copied_front n x m (le_of_suc-le-suc h))

pub copied_in_parts :
    (n t : ℕ) (x m : List ℕ) {front rest : List ℕ} → t ≡ min n (length x) → n ≤ length m → front ≡ take t x
    → rest ≡ replicate (length (take (n - t) (drop t (front ++ drop t m)))) 0
    → put_mid t (n - t) (front ++ drop t m) rest ≡ changed n (λ k y. get_or x k 0) m
copied_in_parts n t x m {front} {rest} e h f r =
    ap₂ ◌++◌ (take_at front (drop t m) t many ∙ f ∙ taken (dec_le n (length x)))
    (ap₂ ◌++◌ (r ∙ ap (λ (k : ℕ). replicate k 0) (length-take-le (n - t) (drop t (front ++ drop t m)) room ∙ left)) tail)
    ∙ copied_front n x m h
  where
    many : length front ≡ t
    many = ap length f ∙ length-take-le t x (omega arith)

    whole : length (front ++ drop t m) ≡ length m
    whole = omega (arith, many, length-append front (drop t m), length-drop t m)

    room : n - t ≤ length (drop t (front ++ drop t m))
    room = omega (arith, whole, length-drop t (front ++ drop t m))

    left : n - t ≡ n - length x
    left = omega arith

    taken : Dec (n ≤ length x) → take t x ≡ take n x
    taken (yes l) = let all : t ≡ n = omega arith in ap (λ (k : ℕ). take k x) all
    taken (no l) = take_all t x (omega arith) ∙ sym (take_all n x (omega arith))

    tail : drop (n - t) (drop t (front ++ drop t m)) ≡ drop n m
    tail =
        let up : t + (n - t) ≡ n = omega arith in
        drop-drop (n - t) t (front ++ drop t m)
        ∙ ap (λ (k : ℕ). drop k (front ++ drop t m)) up
        ∙ drop-append-drop t m front n (omega arith) many

pub copied_laid : (w : ℕ) (m x : List ℕ) → matrix_words w ≤ length m → length x ≡ matrix_words w → copied w m x ≡ laid x m
unfolding copied
copied_laid w m x h e =
    replaced (matrix_words w) (λ k. get_or x k 0) m x h e (λ k l. refl) ∙ ap (λ (n : ℕ). x ++ drop n m) (sym e)

-- a whole matrix laid over the front of other words keeps its marks
pub marked_laid :
    (w : ℕ) (x m : List ℕ) (i j : ℕ) → length x ≡ matrix_words w → i < label_ceiling w → j < label_ceiling w
    → marked w (laid x m) i j ≡ marked w x i j
marked_laid w x m i j e h l =
    marked_at w (laid x m) i j l
    ∙ ap (λ (v : ℕ). bit v (j % word_bits))
    (get_or-append x (drop (length x) m) 0 (i * w + j / word_bits)
    (subst (λ (n : ℕ). i * w + j / word_bits < n) (sym e) (place_below w i (j / word_bits) h (omega arith))))
    ∙ sym (marked_at w x i j l)
