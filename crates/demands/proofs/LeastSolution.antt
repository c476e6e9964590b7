-- A round that repeats is the least solution: each round is the rules applied to the one before, so what repeats solves them, and no
-- round leaves any solution (Kleene). Assumes nothing.
use mathlib.Core.Path.{◌≡◌, subst}
use Prim.Native.Nat.{ℕ, zero, suc}
use Rattle.numbers.specs.Sizes.{label_ceiling}
use Rattle.calculus.specs.Syntax.{Program, body}
use Rattle.calculus.specs.Rules.{Summary, summary_of, Inside, Solution, Least}
use Rattle.calculus.proofs.Inside.{inside_trans, nothing_inside, summary_monotone}
use Rattle.analysis.specs.Summaries.{WordSummary}
use Rattle.analysis.specs.Meaning.{meaning}
use Rattle.analysis.specs.Rounds.{after}
use Rattle.analysis.proofs.Shape.{shaped_after}
use Rattle.analysis.proofs.Meanings.{Same, LabelsBelow, empty_means, words_mean_sets}

module _ (w : ℕ) (p : Program) (labels : (f : ℕ) → LabelsBelow (label_ceiling w) (body p f)) where
  -- the sets that round k gives procedure f
  abbrev pub round_sets : ℕ → ℕ → Summary
  round_sets k f = meaning w (after w p k f)

  -- a round is the published rules at the round before
  pub round_rules : (k f : ℕ) → Same (round_sets (suc k) f) (summary_of (round_sets k) (body p f))
  unfolding after
  round_rules k f = words_mean_sets w (after w p k) (shaped_after w p k) (body p f) (labels f)

  first_round : (f : ℕ) (x : Summary) → Inside (round_sets zero f) x
  unfolding after
  first_round f x = inside_trans (empty_means w).into (nothing_inside x)

  -- no round leaves any solution
  pub rounds_inside : (A : ℕ → Summary) → Solution p A → (k f : ℕ) → Inside (round_sets k f) (A f)
  rounds_inside A h zero f = first_round f (A f)
  rounds_inside A h (suc k) f =
      inside_trans (round_rules k f).into
      (inside_trans (summary_monotone (rounds_inside A h k) (body p f)) (h.no_less f))

  -- rounds grow
  pub rounds_grow : (k f : ℕ) → Inside (round_sets k f) (round_sets (suc k) f)
  rounds_grow zero f = first_round f (round_sets 1 f)
  rounds_grow (suc k) f =
      inside_trans (round_rules k f).into
      (inside_trans (summary_monotone (rounds_grow k) (body p f)) (round_rules (suc k) f).back)

  -- a round that repeats solves the rules, and is the least that does
  pub repeat_least : (k : ℕ) → ((f : ℕ) → after w p (suc k) f ≡ after w p k f) → Least p (round_sets k)
  repeat_least k e =
      record {
        solution =
            record {
              no_more = λ f. subst (λ (x : WordSummary). Inside (meaning w x) (summary_of (round_sets k) (body p f))) (e f) (round_rules k f).into;
              no_less = λ f. subst (λ (x : WordSummary). Inside (summary_of (round_sets k) (body p f)) (meaning w x)) (e f) (round_rules k f).back;
            };
        inside = λ A h. rounds_inside A h k;
      }
