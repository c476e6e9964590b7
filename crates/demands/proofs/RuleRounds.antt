-- The rounds on words are the rounds of the published rules on sets: round by round the words mean the sets, and words of one shape that mean the same sets are
-- the same words, so a round repeats on words exactly if it does on sets. Assumes nothing.
use mathlib.Core.Path.{◌≡◌, sym, ◌∙◌, subst}
use mathlib.Core.List.{List}
use Prim.Native.Nat.{ℕ, zero, suc, ◌<◌}
use native.Mathlib.Decide.{ℕ_discrete}
use native.Mathlib.Omega.{arith}
use lib.ListN.{get_or-eq_default}
use Rattle.numbers.specs.Sizes.{Size, label_ceiling}
use Rattle.labels.specs.Sets.{member}
use Rattle.labels.proofs.SetLaws.{member_lt, members_make_the_set}
use Rattle.matrix.specs.Matrix.{marked}
use Rattle.matrix.proofs.MatrixLaws.{marked_lt, marks_make_the_matrix}
use Rattle.calculus.specs.Syntax.{Program, body}
use Rattle.calculus.specs.Rules.{Summary, Least}
use Rattle.calculus.proofs.Inside.{inside_trans, summary_monotone}
use Rattle.recipe.specs.Rules.{IsAdmitted}
use Rattle.recipe.specs.Statements.{program_of}
use Rattle.recipe.specs.Tables.{Table}
use Rattle.analysis.specs.Summaries.{WordSummary}
use Rattle.analysis.specs.Meaning.{meaning}
use Rattle.analysis.specs.Rounds.{after}
use Rattle.analysis.specs.Replies.{rounds}
use Rattle.analysis.proofs.Shape.{Sized, Shaped, by_parts, shaped_after}
use Rattle.analysis.proofs.Meanings.{Same, LabelsBelow, same_refl, same_trans, empty_means}
use Rattle.demands.specs.Demanded.{rule_rounds, Repeats, FirstRepeat}
use Rattle.demands.proofs.LeastSolution.{round_rules}
use Rattle.demands.proofs.Demands.{demand_2_repeats, demand_2_first, demand_2_least, labels_below}

-- ---- words that mean the same sets are the same

both_one : (a b : ℕ) → a < 2 → b < 2 → (a ≡ 1 → b ≡ 1) → (b ≡ 1 → a ≡ 1) → a ≡ b
both_one a b h l f g = go (ℕ_discrete a 1) (ℕ_discrete b 1)
  where
    go : Dec (a ≡ 1) → Dec (b ≡ 1) → a ≡ b
    go (yes p) d = p ∙ sym (f p)
    go (no p) (yes q) = g q ∙ sym q
    go (no p) (no q) = omega arith

same_sym : {x y : Summary} → Same x y → Same y x
same_sym s = record { into = s.back; back = s.into }

module _ (w : ℕ) where
  same_set :
      {a b : List ℕ} → Sized w a → Sized w b → ((l : ℕ) → member a l ≡ 1 → member b l ≡ 1) → ((l : ℕ) → member b l ≡ 1 → member a l ≡ 1) → a ≡ b
  same_set {a} {b} x y f g =
      members_make_the_set a b (x.size ∙ sym y.size) x.words y.words
      (λ l h. both_one (member a l) (member b l) (member_lt a l) (member_lt b l) (f l) (g l))

  pub same_words_lem : {x y : WordSummary} → Shaped w x → Shaped w y → Same (meaning w x) (meaning w y) → x ≡ y
  same_words_lem {x} {y} a b s =
      by_parts
      (marks_make_the_matrix w x.M y.M (a.M.size ∙ sym b.M.size) a.M.words b.M.words
      (λ k h.
      get_or-eq_default x.M 0 {n = k} (omega (arith, a.M.size)) ∙ sym (get_or-eq_default y.M 0 {n = k} (omega (arith, b.M.size))))
      (λ i j h l. both_one (marked w x.M i j) (marked w y.M i j) (marked_lt w x.M i j) (marked_lt w y.M i j) (s.into.M i j) (s.back.M i j)))
      (same_set a.O b.O s.into.O s.back.O)
      (same_set a.L b.L s.into.L s.back.L)

-- ---- round by round

module _ (w : ℕ) (p : Program) (labels : (f : ℕ) → LabelsBelow (label_ceiling w) (body p f)) where
  -- the words of a round mean the sets that the published rules give
  pub round_means : (k f : ℕ) → Same (meaning w (after w p k f)) (rule_rounds p k f)
  unfolding after rule_rounds
  round_means zero f = empty_means w
  round_means (suc k) f =
      same_trans (round_rules w p labels k f)
      (record {
        into = summary_monotone (λ g. (round_means k g).into) (body p f);
        back = summary_monotone (λ g. (round_means k g).back) (body p f);
      })

  pub words_repeat : (k : ℕ) → ((f : ℕ) → after w p (suc k) f ≡ after w p k f) → Repeats p k
  words_repeat k e f =
      let same : Same (meaning w (after w p (suc k) f)) (meaning w (after w p k f)) =
      subst (λ (x : WordSummary). Same (meaning w (after w p (suc k) f)) (meaning w x)) (e f) (same_refl (meaning w (after w p (suc k) f))) in
      let sets : Same (rule_rounds p (suc k) f) (rule_rounds p k f) =
      same_trans (same_sym (round_means (suc k) f)) (same_trans same (round_means k f)) in
      (sets.into, sets.back)

  pub sets_repeat : (k : ℕ) → Repeats p k → (f : ℕ) → after w p (suc k) f ≡ after w p k f
  sets_repeat k r f =
      let sets : Same (rule_rounds p (suc k) f) (rule_rounds p k f) = record { into = (r f).0; back = (r f).1 } in
      same_words_lem w (shaped_after w p (suc k) f) (shaped_after w p k f)
      (same_trans (round_means (suc k) f) (same_trans sets (same_sym (round_means k f))))

-- ---- of an admitted table

module _ (z : Size) (t : Table) (ok : IsAdmitted z t) where
  abbrev p : Program
  p = program_of t

  -- demand 2: the words of each round mean the sets of the published rules' round
  pub demand_2_round : (k f : ℕ) → Same (meaning z.words (after z.words p k f)) (rule_rounds p k f)
  demand_2_round = round_means z.words p (labels_below z t ok)

  -- demand 2: the rounds are the first count after which one more round of the published rules changes nothing
  pub demand_2_rounds : FirstRepeat p (rounds z.words p)
  demand_2_rounds =
      record {
        repeats = words_repeat z.words p (labels_below z t ok) (rounds z.words p) (demand_2_repeats z.words p);
        before = λ l h r. demand_2_first z.words p l h (sets_repeat z.words p (labels_below z t ok) l r);
      }

  -- demand 2: the sets of that round are the least solution
  pub demand_2_sets : Least p (rule_rounds p (rounds z.words p))
  unfolding rule_rounds
  demand_2_sets =
      record {
        solution = record { no_more = λ f. (demand_2_rounds.repeats f).1; no_less = λ f. (demand_2_rounds.repeats f).0 };
        inside = λ A h f. inside_trans (demand_2_round (rounds z.words p) f).back ((demand_2_least z t ok).inside A h f);
      }
