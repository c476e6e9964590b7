-- The demands, of every table that is admitted at some size: the reported round is the first that repeats, so its sets are the least
-- solution, and all that holds of least solutions holds of the words that are handed back. Assumes nothing.
use mathlib.Core.Path.{◌≡◌, sym, ap, ◌∙◌, subst, fun_ext}
use mathlib.Core.Logic.{◌↔◌}
use mathlib.Core.Bool.{true, true≢false}
use mathlib.Core.List.{List}
use Prim.Native.Nat.{ℕ, zero, suc, ◌+◌, ◌-◌, ◌*◌, ◌≤◌, ◌<◌}
use native.Mathlib.Numerals.{unary_clauses}
use native.Mathlib.Decide.{dec_lt}
use native.Mathlib.Omega.{arith}
use lib.ListN.{length, get_or-eq_default}
use Rattle.std.specs.Prelude.{Ok}
use Rattle.numbers.specs.General.{lowest, laid}
use Rattle.numbers.specs.Sizes.{Size, label_ceiling}
use Rattle.numbers.proofs.LowestLaws.{none_below, lowest_within, lowest_passes}
use Rattle.matrix.specs.Matrix.{marked}
use Rattle.matrix.proofs.MatrixLaws.{marked_laid}
use Rattle.calculus.specs.Syntax.{Stmt, skip, Program, body}
use Rattle.calculus.specs.Steps.{Steps}
use Rattle.calculus.specs.Enabled.{MayMeet}
use Rattle.calculus.specs.Rules.{Summary, summary_of, Inside, Least}
use Rattle.calculus.specs.Calls.{NoSelfCall}
use Rattle.calculus.proofs.Inside.{least_unique}
use Rattle.calculus.proofs.Theorems as calculus
use Rattle.recipe.specs.Rules.{IsAdmitted}
use Rattle.recipe.specs.Statements.{program_of}
use Rattle.recipe.specs.Tables.{Table, procs, root_at}
use Rattle.recipe.proofs.Admitted.{root_row}
use Rattle.recipe.proofs.Readings.{program_length, body_of_root}
use Rattle.calls.specs.Verdicts.{verdict_on}
use Rattle.calls.specs.declared.Verdict.TheVariants as verdict
use Rattle.calls.proofs.VerdictLaws.{exact_admitted, exact_exactly}
use Rattle.analysis.specs.Meaning.{meaning}
use Rattle.analysis.specs.Rounds.{after, settled}
use Rattle.analysis.specs.Summaries.{WordSummary, words_of}
use Rattle.analysis.specs.Replies.{rounds, main_pairs}
use Rattle.analysis.proofs.Bound.{settled_repeats, repeats_settled, final_settled}
use Rattle.analysis.proofs.LabelsInRange.{labels_in_range}
use Rattle.analysis.proofs.Meanings.{LabelsBelow}
use Rattle.analysis.proofs.Shape.{shaped_after}
use Rattle.demands.proofs.LeastSolution.{repeat_least}

-- ---- demand 2: the rounds

module _ (w : ℕ) (p : Program) where
  -- the test passes at the first round at which it may, since it passes at the bound
  settled_at_lowest : settled w p (lowest (3 * length p) (settled w p)) ≡ true
  settled_at_lowest = go (dec_lt (lowest (3 * length p) (settled w p)) (3 * length p))
    where
      go : Dec (lowest (3 * length p) (settled w p) < 3 * length p) → settled w p (lowest (3 * length p) (settled w p)) ≡ true
      go (yes h) = lowest_passes (3 * length p) (settled w p) h
      go (no h) = final_settled w p (lowest (3 * length p) (settled w p)) (omega arith)

  -- after the reported rounds one more changes nothing
  pub demand_2_repeats : (f : ℕ) → after w p (suc (rounds w p)) f ≡ after w p (rounds w p) f
  unfolding rounds
  demand_2_repeats = settled_repeats w p (rounds w p) settled_at_lowest

  -- after fewer, one more changes something
  pub demand_2_first : (k : ℕ) → k < rounds w p → ¬ ((f : ℕ) → after w p (suc k) f ≡ after w p k f)
  unfolding rounds
  demand_2_first k h e =
      true≢false (sym (repeats_settled w p k e) ∙ none_below (3 * length p) (settled w p) k h)

  -- they are at most three a procedure
  pub demand_2_bound : rounds w p ≤ 3 * length p
  unfolding rounds
  demand_2_bound = lowest_within (3 * length p) (settled w p)

  -- a repeat lasts
  repeat_lasts :
      (k : ℕ) → ((f : ℕ) → after w p (suc k) f ≡ after w p k f) → (more f : ℕ) → after w p (suc (k + more)) f ≡ after w p (k + more) f
  unfolding after
  repeat_lasts k e zero f = simp unary_clauses (e f)
  repeat_lasts k e (suc more) f =
      simp unary_clauses (ap (λ (B : ℕ → WordSummary). words_of w B (body p f)) (fun_ext (repeat_lasts k e more)))

  -- so a round after which something changes comes before the reported one
  pub changes_before : (k f : ℕ) → ¬ (after w p (suc k) f ≡ after w p k f) → k < rounds w p
  changes_before k f changes = either (dec_lt k (rounds w p))
    where
      either : Dec (k < rounds w p) → k < rounds w p
      either (yes before) = before
      either (no past) =
          let later : rounds w p + (k - rounds w p) ≡ k = omega arith in
          absurd (changes (rw later at (repeat_lasts (rounds w p) demand_2_repeats (k - rounds w p) f)))

-- ---- of an admitted table

module _ (z : Size) (t : Table) (ok : IsAdmitted z t) where
  -- the sets of the reported round
  abbrev pub reported_sets : ℕ → Summary
  reported_sets f = meaning z.words (after z.words (program_of t) (rounds z.words (program_of t)) f)

  -- every label of a body is below the ceiling
  pub labels_below : (f : ℕ) → LabelsBelow (label_ceiling z.words) (body (program_of t) f)
  labels_below f = go (dec_lt f (procs t))
    where
      go : Dec (f < procs t) → LabelsBelow (label_ceiling z.words) (body (program_of t) f)
      go (yes h) =
          subst (LabelsBelow (label_ceiling z.words)) (sym (body_of_root t f h))
          (labels_in_range z t ok (root_at t f) (root_row z t ok f h))
      go (no h) =
          subst (LabelsBelow (label_ceiling z.words))
          (sym (get_or-eq_default (program_of t) skip {n = f} (subst (λ (n : ℕ). n ≤ f) (sym (program_length t)) (omega arith)))) tt

  -- demand 2: the reported summaries are a solution of rule (17) and lie inside every solution
  pub demand_2_least : Least (program_of t) reported_sets
  demand_2_least =
      repeat_least z.words (program_of t) labels_below (rounds z.words (program_of t)) (demand_2_repeats z.words (program_of t))

  -- demand 2: a mark is a pair of main in any least solution, and the other way round
  pub demand_2_pairs :
      (B : ℕ → Summary) → Least (program_of t) B
      → (i j : ℕ) → (marked z.words (main_pairs z.words (program_of t)) i j ≡ 1) ↔ (B 0).M i j
  demand_2_pairs B least i j =
      let same = least_unique demand_2_least least 0 in
      (same.0.M i j, same.1.M i j)

  -- demand 3: no state of a run from main's body has a pair, a running label or a left-over label beyond those of main
  pub demand_3_no_new :
      {s : Stmt} → Steps (program_of t) (body (program_of t) 0) s → Inside (summary_of reported_sets s) (reported_sets 0)
  demand_3_no_new run = calculus.no_new demand_2_least.solution run

  -- demand 3: two labels enabled at two different places of a reached state are marked
  pub demand_3_marked :
      {i j : ℕ} → MayMeet (program_of t) (body (program_of t) 0) i j → marked z.words (main_pairs z.words (program_of t)) i j ≡ 1
  demand_3_marked m = calculus.marked demand_2_least.solution m

  -- demand 3: without self-calls from main on, each marked pair is enabled at two different places in some reached state
  pub demand_3_met :
      {i j : ℕ} → NoSelfCall (program_of t) → marked z.words (main_pairs z.words (program_of t)) i j ≡ 1
      → MayMeet (program_of t) (body (program_of t) 0) i j
  demand_3_met acyclic m = calculus.met acyclic demand_2_least m

  -- the lent words that main's pairs are laid over hold main's marks
  pub matrix_marks :
      (m : List ℕ) (i j : ℕ) → i < label_ceiling z.words → j < label_ceiling z.words
      → marked z.words (laid (main_pairs z.words (program_of t)) m) i j ≡ marked z.words (main_pairs z.words (program_of t)) i j
  matrix_marks m i j =
      marked_laid z.words (main_pairs z.words (program_of t)) m i j
      (shaped_after z.words (program_of t) (rounds z.words (program_of t)) 0).M.size

-- ---- of a table that has the verdict exact

-- demand 3: it is admitted and has no self-calls from main on, so each marked pair is enabled at two different places in some reached state
pub demand_3_exact :
    (z : Size) (t : Table) {i j : ℕ} → verdict_on z t ≡ Ok verdict.Exact → marked z.words (main_pairs z.words (program_of t)) i j ≡ 1
    → MayMeet (program_of t) (body (program_of t) 0) i j
demand_3_exact z t e = let ok = exact_admitted z t e in demand_3_met z t ok ((exact_exactly z t ok).0 e)
