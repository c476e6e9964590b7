-- The rounds so far: the state holds round k, and no earlier round repeated. A round that does not repeat leads to the next, one that does is the first.
-- Assumes nothing.
use mathlib.Core.Path.{◌≡◌, refl, sym, ap, ap₂, ◌∙◌, subst}
use mathlib.Core.Bool.{Bool, true, false, false≢true, ◌&&◌}
use mathlib.Core.Logic.{inl, inr}
use mathlib.Core.List.{List, [], ◌∷◌}
use Prim.Native.Nat.{ℕ, suc, ◌+◌, ◌*◌, ◌≤◌, ◌<◌}
use native.Mathlib.Decide.{dec_lt}
use native.Mathlib.Numerals.{add-one}
use native.Mathlib.Omega.{arith}
use lib.ListN.{length, get_or, take, length-take}
use lib.Dec.{eqb}
use Rattle.std.specs.Bool.{Decides}
use Rattle.std.specs.Str.{bytes_eq}
use Rattle.std.proofs.lemmas.Bool.Decides.{Decides-and, Decides-eqb, same_from_decides}
use Rattle.std.proofs.lemmas.Slice.Eq.{bytes_eq-Decides}
use Rattle.std.proofs.lemmas.List.{get_or-take, ext_get_or}
use Rattle.numbers.specs.Sizes.{Size}
use Rattle.numbers.specs.General.{lowest}
use Rattle.numbers.proofs.LowestLaws.{Passed, passed_none, passed_more, passed_found}
use Rattle.calculus.specs.Syntax.{Stmt, skip, step, seq, loop, async, finish, call, Program, body}
use Rattle.calculus.specs.Calls.{CallsIn}
use Rattle.recipe.specs.Rules.{IsAdmitted}
use Rattle.recipe.specs.Tables.{Table, procs, root_at}
use Rattle.recipe.specs.Statements.{program_of}
use Rattle.recipe.proofs.Admitted.{sizes_right_lem, root_row}
use Rattle.recipe.proofs.EachRow.{calls_below}
use Rattle.recipe.proofs.Readings.{program_length, body_of_root}
use Rattle.analysis.specs.Summaries.{WordSummary, empty_words, followed_words, looped_words, spawned_words, waited_words, words_of}
use Rattle.analysis.specs.Rounds.{after, settled}
use Rattle.analysis.specs.Replies.{rounds, main_pairs}
use Rattle.analysis.specs.declared.summary.Summary.{Summary}
use Rattle.analysis.specs.Inner.{words_in, no_summary, held_for, body_words, Shaped, Whole}
use Rattle.analysis.proofs.Bound.{final_settled, repeats_beyond, settled_repeats, repeats_settled}
use Rattle.analysis.proofs.Shape.{by_parts, shaped_after}

-- summaries that agree on what a statement calls give it the same summary
words_alike : (w : ℕ) (B C : ℕ → WordSummary) (s : Stmt) → ((f : ℕ) → CallsIn s f → B f ≡ C f) → words_of w B s ≡ words_of w C s
words_alike w B C skip e = refl
words_alike w B C (step l) e = refl
words_alike w B C (seq s t) e =
    ap₂ (followed_words w) (words_alike w B C s (λ f c. e f (inl c))) (words_alike w B C t (λ f c. e f (inr c)))
words_alike w B C (loop s) e = ap (looped_words w) (words_alike w B C s e)
words_alike w B C (async s) e = ap spawned_words (words_alike w B C s e)
words_alike w B C (finish s) e = ap (waited_words w) (words_alike w B C s e)
words_alike w B C (call f) e = e f refl

-- The state holds round k, there is room for the next, and no earlier round repeated.
pub record Going (z : Size) (t : Table) (held new : List Summary) (k : ℕ) : Type 0 where
  pub ok : IsAdmitted z t
  pub few : procs t ≤ z.procs
  pub state : (f : ℕ) → f < z.procs → held_for held f ≡ after z.words (program_of t) k f
  pub room : new ≡ held
  pub first : Passed (3 * procs t) (settled z.words (program_of t)) k

pub rounds_begin :
    {z : Size} {t : Table} {held : List Summary} → IsAdmitted z t → ((f : ℕ) → f < z.procs → held_for held f ≡ empty_words z.words)
    → Going z t held held 0
unfolding after
rounds_begin {z} {t} ok e =
    record {
      ok = ok;
      few = (sizes_right_lem z t ok).few_procs_lem;
      state = e;
      room = refl;
      first = passed_none (3 * procs t) (settled z.words (program_of t));
    }

-- stored summaries of the same words are equal
same_summary : {x y : Summary} → words_in x ≡ words_in y → x ≡ y
same_summary e =
    let m = ap (λ (s : WordSummary). s.M) e in
    let o = ap (λ (s : WordSummary). get_or s.O 0 0) e in
    let l = ap (λ (s : WordSummary). get_or s.L 0 0) e in
    λ i. record { pairs = m i; labels = record { o = o i; l = l i } }

-- stored summaries are compared part by part
abbrev pub parts_equal : Summary → Summary → Bool
parts_equal x y = bytes_eq x.pairs y.pairs && (eqb x.labels.o y.labels.o && eqb x.labels.l y.labels.l)

pub parts_decide : (x y : Summary) → Decides (parts_equal x y) (x ≡ y)
parts_decide x y =
    let d = Decides-and _ _ (bytes_eq-Decides x.pairs y.pairs) (Decides-and _ _ (Decides-eqb x.labels.o y.labels.o) (Decides-eqb x.labels.l y.labels.l)) in (
      λ e. let p = d.0 e in same_summary (by_parts p.0 (ap (λ (n : ℕ). n ∷ []) p.1.0) (ap (λ (n : ℕ). n ∷ []) p.1.1)),
      λ e. d.1 (ap (λ (s : Summary). s.pairs) e, (ap (λ (s : Summary). s.labels.o) e, ap (λ (s : Summary). s.labels.l) e)),
    )

module _ {z : Size} {t : Table} {held new : List Summary} {k : ℕ} (g : Going z t held new k) where
  abbrev w : ℕ
  w = z.words

  abbrev p : Program
  p = program_of t

  pub whole : Whole z held
  whole = record { of = λ f h. subst (Shaped w) (sym (g.state f h)) (shaped_after w p k f) }

  -- the bodies are those of the next round
  body_after : (f : ℕ) → f < procs t → body_words w p held f ≡ after w p (suc k) f
  unfolding after
  body_after f h =
      words_alike w (held_for held) (after w p k) (body p f)
      (λ c l. g.state c (calls_below z t g.ok (root_at t f) (root_row z t g.ok f h) c (subst (λ (s : Stmt). CallsIn s c) (body_of_root t f h) l)))

  module _
      (new' : List Summary)
      (bodies : (f : ℕ) → f < procs t → held_for new' f ≡ body_words w p held f)
      (others : (f : ℕ) → procs t ≤ f → held_for new' f ≡ held_for new f)
    where
      next_state : (f : ℕ) → f < z.procs → held_for new' f ≡ after w p (suc k) f
      next_state f h = either (dec_lt f (procs t))
        where
          either : Dec (f < procs t) → held_for new' f ≡ after w p (suc k) f
          either (yes below) = bodies f below ∙ body_after f below
          either (no past) =
              others f (omega arith)
              ∙ ap (λ (s : List Summary). held_for s f) g.room
              ∙ g.state f h
              ∙ sym (repeats_beyond w p k f (subst (λ (n : ℕ). n ≤ f) (sym (program_length t)) (omega arith)))

      module _ (b : Bool) (size : length new' ≡ length held) (d : Decides b (take (procs t) new' ≡ take (procs t) held)) where
        -- what repeats, repeats in every procedure
        repeated : take (procs t) new' ≡ take (procs t) held → settled w p k ≡ true
        repeated e = repeats_settled w p k (λ f. either f (dec_lt f (procs t)))
          where
            either : (f : ℕ) → Dec (f < procs t) → after w p (suc k) f ≡ after w p k f
            either f (yes below) =
                sym (next_state f (omega arith))
                ∙ ap words_in
                (sym (get_or-take (procs t) new' f no_summary below)
                ∙ ap (λ (s : List Summary). get_or s f no_summary) e
                ∙ get_or-take (procs t) held f no_summary below)
                ∙ g.state f (omega arith)
            either f (no past) = repeats_beyond w p k f (subst (λ (n : ℕ). n ≤ f) (sym (program_length t)) (omega arith))

        same_states : settled w p k ≡ true → take (procs t) new' ≡ take (procs t) held
        same_states e =
            ext_get_or no_summary (take (procs t) new') (take (procs t) held) (omega (arith, length-take {A = Summary}, size))
            (λ f h. let below : f < procs t = omega (arith, h, length-take {A = Summary}) in
            get_or-take (procs t) new' f no_summary below
            ∙ same_summary
            (next_state f (omega arith) ∙ settled_repeats w p k e f ∙ sym (g.state f (omega arith)))
            ∙ sym (get_or-take (procs t) held f no_summary below))

        -- the comparison of the states is that of the rounds
        compared : b ≡ settled w p k
        compared = same_from_decides b (settled w p k) d (same_states, repeated)

        -- a round that is not repeated has a number below the bound
        pub not_yet : b ≡ false → k < 3 * procs t
        not_yet f = within (dec_lt k (3 * procs t))
          where
            within : Dec (k < 3 * procs t) → k < 3 * procs t
            within (yes h) = h
            within (no h) =
                absurd
                (false≢true
                (sym f ∙ compared ∙ final_settled w p k (subst (λ (n : ℕ). 3 * n ≤ k) (sym (program_length t)) (omega arith))))

        pub rounds_go_on : b ≡ false → Going z t new' new' (k + 1)
        rounds_go_on f =
            record {
              ok = g.ok;
              few = g.few;
              state = λ f h. next_state f h ∙ ap (λ (n : ℕ). after w p n f) (sym (add-one k));
              room = refl;
              first = passed_more (3 * procs t) (settled w p) k (not_yet f) g.first (sym compared ∙ f);
            }

        pub rounds_end : b ≡ true → k ≡ rounds w p
        unfolding rounds
        rounds_end f =
            passed_found (3 * procs t) (settled w p) k g.first (sym compared ∙ f)
            ∙ ap (λ (n : ℕ). lowest (3 * n) (settled w p)) (sym (program_length t))

  some_procs_lem : 0 < z.procs
  some_procs_lem = omega (arith, (sizes_right_lem z t g.ok).some_procs)

  -- main's summary stands first
  pub main_first : k ≡ rounds w p → (held_for held 0).M ≡ main_pairs w p
  main_first e = ap (λ (x : WordSummary). x.M) (g.state 0 some_procs_lem) ∙ ap (λ (n : ℕ). (after w p n 0).M) e
