-- What whoever lends a whole matrix for an admitted recipe may conclude of the reply r and the later words m' of any entry whose contract gives them: the judge
-- admits the recipe, so the reply is its rounds and the words are main's pairs, and the demands speak of those. Where the verdict on it is exact, the premise
-- of the last of them is there.
-- Assumes nothing.
use mathlib.Core.Path.{◌≡◌, sym, ap, ◌∙◌, subst}
use mathlib.Core.Logic.{◌↔◌}
use mathlib.Core.List.{List}
use Prim.Native.Nat.{ℕ, ◌+◌, ◌-◌, ◌≤◌, ◌<◌}
use native.Mathlib.Decide.{dec_lt}
use native.Mathlib.Nat.{le_of_eq}
use native.Mathlib.Omega.{arith}
use lib.ListN.{length, get_or, drop, length-append, length-drop}
use lib.Seq.{get_or-append-add, get_or-drop}
use Rattle.std.specs.Prelude.{Result, Ok}
use Rattle.numbers.specs.General.{laid}
use Rattle.numbers.specs.declared.Refusal.{Refusal}
use Rattle.numbers.specs.Sizes.{ours, label_ceiling, matrix_words}
use Rattle.labels.specs.Words.{bit}
use Rattle.matrix.specs.Matrix.{marked}
use Rattle.matrix.proofs.MatrixLaws.{marked_beyond_label, marked_beyond_partner}
use Rattle.matrix.proofs.OneWord.{marked_one}
use Rattle.calculus.specs.Syntax.{Stmt, Program, body}
use Rattle.calculus.specs.Steps.{Steps}
use Rattle.calculus.specs.Enabled.{MayMeet}
use Rattle.calculus.specs.Rules.{Summary, summary_of, Least}
use Rattle.calculus.specs.Calls.{NoSelfCall}
use Rattle.calculus.proofs.Theorems as calculus
use Rattle.recipe.specs.Rules.{IsAdmitted}
use Rattle.recipe.specs.Statements.{program_of}
use Rattle.recipe.specs.Tables.{Table, lists_of}
use Rattle.recipe.proofs.WithMatrix.{admitted_still}
use Rattle.calls.specs.Verdicts.{verdict_on}
use Rattle.calls.specs.declared.Verdict.TheVariants as verdict
use Rattle.calls.proofs.VerdictLaws.{exact_admitted}
use Rattle.calls.proofs.verdict_on.Reads.{Post as verdict-on-post}
use Rattle.analysis.specs.Replies.{rounds, main_pairs, analysed_as, matrix_as, analysed, matrix_after}
use Rattle.analysis.proofs.analyse.Reads.{Post as analyse-post}
use Rattle.analysis.proofs.Shape.{shaped_after}
use Rattle.demands.specs.Demanded.{PairSet, Demanded, FirstRepeat}
use Rattle.demands.proofs.Demands.{demand_2_pairs, demand_3_marked, demand_3_met, demand_3_exact, matrix_marks}
use Rattle.demands.proofs.RuleRounds.{demand_2_rounds}

-- both labels of a mark lie below the ceiling
marked_below :
    (w : ℕ) (m : List ℕ) (i j : ℕ) → length m ≤ matrix_words w → marked w m i j ≡ 1 → (i < label_ceiling w) × (j < label_ceiling w)
marked_below w m i j size e = (first (dec_lt i (label_ceiling w)), second (dec_lt j (label_ceiling w)))
  where
    first : Dec (i < label_ceiling w) → i < label_ceiling w
    first (yes h) = h
    first (no h) = absurd (omega (arith, marked_beyond_label w m i j size (omega arith)))

    second : Dec (j < label_ceiling w) → j < label_ceiling w
    second (yes h) = h
    second (no h) = absurd (omega (arith, marked_beyond_partner w m i j (omega arith)))

-- ---- the reply

module _ (t : Table) (ok : IsAdmitted ours t) (m : List ℕ) (room : matrix_words ours.words ≤ length m) where
  -- the reply is the recipe's rounds, and no refusal
  pub reported_reply : (r : Result ℕ Refusal) → r ≡ analysed ours t (length m) → r ≡ Ok (rounds ours.words (program_of t))
  unfolding analysed
  reported_reply r said = said ∙ ap (analysed_as ours (program_of t)) (admitted_still ours t (length m) ok room)

  -- the reported rounds are the definitions'
  pub reported_rounds : (k : ℕ) → Ok k ≡ analysed ours t (length m) → k ≡ rounds ours.words (program_of t)
  reported_rounds k said =
      let e : Ok k ≡ Ok (rounds ours.words (program_of t)) = reported_reply (Ok k) said in cc

  -- they are the first count after which one more round of the published rules changes nothing
  pub reported_first : (k : ℕ) → Ok k ≡ analysed ours t (length m) → FirstRepeat (program_of t) k
  reported_first k said = subst (FirstRepeat (program_of t)) (sym (reported_rounds k said)) (demand_2_rounds ours t ok)

-- ---- the lent words

module _
    (t : Table)
    (ok : IsAdmitted ours t)
    (m : List ℕ)
    (room : matrix_words ours.words ≤ length m)
    (m' : List ℕ)
    (held : m' ≡ matrix_after ours t m)
  where
    abbrev p : Program
    p = program_of t

    abbrev main : List ℕ
    main = main_pairs ours.words p

    main_size : length main ≡ matrix_words ours.words
    main_size = (shaped_after ours.words p (rounds ours.words p) 0).M.size

    laid_out : m' ≡ laid main m
    unfolding matrix_after
    laid_out = held ∙ ap (matrix_as ours p m) (admitted_still ours t (length m) ok room)

    marks :
        (i j : ℕ) → i < label_ceiling ours.words → j < label_ceiling ours.words → bit (get_or m' i 0) j ≡ marked ours.words main i j
    marks i j h l =
        sym (marked_one m' i j l)
        ∙ ap (λ (x : List ℕ). marked ours.words x i j) laid_out
        ∙ matrix_marks ours t ok m i j h l

    set_marked : (i j : ℕ) → PairSet m' i j → marked ours.words main i j ≡ 1
    set_marked i j s = sym (marks i j s.0 s.1) ∙ s.2

    marked_set : (i j : ℕ) → marked ours.words main i j ≡ 1 → PairSet m' i j
    marked_set i j e =
        let below = marked_below ours.words main i j (le_of_eq main_size) e in
        (below.0, below.1, marks i j below.0 below.1 ∙ e)

    -- demand 2: bit j of word i is set, with i and j below the ceiling, exactly if (i,j) is a pair of main in the least solution
    pub reported_pairs : (B : ℕ → Summary) → Least p B → (i j : ℕ) → PairSet m' i j ↔ (B 0).M i j
    reported_pairs B least i j =
        let pair = demand_2_pairs ours t ok B least i j in
        (λ s. pair.0 (set_marked i j s), λ x. marked_set i j (pair.1 x))

    -- demand 3: a pair that the rules give a reached state, with the summaries of the least solution, is set in the lent words
    pub reported_no_new :
        (B : ℕ → Summary) → Least p B → (s : Stmt) → Steps p (body p 0) s → (i j : ℕ) → (summary_of B s).M i j → PairSet m' i j
    reported_no_new B least s run i j x =
        (reported_pairs B least i j).1 ((calculus.no_new least.solution run).M i j x)

    -- demand 3: two labels enabled at two different places of a reached state are below the ceiling and marked
    pub reported_marked : (i j : ℕ) → MayMeet p (body p 0) i j → PairSet m' i j
    reported_marked i j x = marked_set i j (demand_3_marked ours t ok x)

    -- demand 3: without self-calls from main on, each marked pair is enabled at two different places in some reached state
    pub reported_met : NoSelfCall p → (i j : ℕ) → PairSet m' i j → MayMeet p (body p 0) i j
    reported_met acyclic i j s = demand_3_met ours t ok acyclic (set_marked i j s)

    -- there are as many words as before
    pub reported_size : length m' ≡ length m
    reported_size =
        omega (arith, ap length laid_out, length-append main (drop (length main) m), length-drop (length main) m, main_size)

    -- words beyond the matrix are as they were
    pub reported_beyond : (i : ℕ) → matrix_words ours.words ≤ i → get_or m' i 0 ≡ get_or m i 0
    reported_beyond i h =
        let far : i ≡ length main + (i - length main) = omega (arith, main_size) in
        ap (λ (x : List ℕ). get_or x i 0) laid_out
        ∙ ap (λ (n : ℕ). get_or (laid main m) n 0) far
        ∙ get_or-append-add main (drop (length main) m) (i - length main) 0
        ∙ get_or-drop (length main) m (i - length main) 0
        ∙ ap (λ (n : ℕ). get_or m n 0) (sym far)

    -- all of them in one
    pub reported_demands : Demanded p m m'
    reported_demands =
        record {
          pairs = reported_pairs;
          no_new = reported_no_new;
          marked = reported_marked;
          met = reported_met;
          size = reported_size;
          beyond = reported_beyond;
        }

-- demand 3: where the verdict is exact, each marked pair is enabled at two different places in some reached state
pub reported_exact :
    (t : Table) → verdict_on ours t ≡ Ok verdict.Exact → (m : List ℕ) → matrix_words ours.words ≤ length m
    → (m' : List ℕ) → m' ≡ matrix_after ours t m → (i j : ℕ) → PairSet m' i j → MayMeet (program_of t) (body (program_of t) 0) i j
reported_exact t exact m room m' held i j s =
    demand_3_exact ours t exact (set_marked t (exact_admitted ours t exact) m room m' held i j s)

-- ---- the analysis of three slices

module _ (κs a r s : _) (met : analyse-post κs a r s) where
  abbrev t : Table
  t = lists_of a.0.now

  abbrev lent : List ℕ
  lent = a.1.0.now

  -- whatever meets the contract of `analyse` answers an admitted recipe with its rounds
  pub analyse_reply : IsAdmitted ours t → matrix_words ours.words ≤ length lent → r ≡ Ok (rounds ours.words (program_of t))
  analyse_reply ok room = reported_reply t ok lent room r met.0

  -- and leaves in the lent words what the demands ask
  pub analyse_demands : IsAdmitted ours t → matrix_words ours.words ≤ length lent → Demanded (program_of t) lent s.1.0.now
  analyse_demands ok room = reported_demands t ok lent room s.1.0.now met.1

-- ---- the verdict on the same

module _ (κs a r s : _) (met : verdict-on-post κs a r s) (exact : r ≡ Ok verdict.Exact) where
  abbrev judged_t : Table
  judged_t = lists_of a.0.now

  -- whatever meets the contract of `verdict_on` and replies exact: each pair of main's is enabled at two different places in some reached state
  pub verdict_on_exact :
      {i j : ℕ} → marked ours.words (main_pairs ours.words (program_of judged_t)) i j ≡ 1
      → MayMeet (program_of judged_t) (body (program_of judged_t) 0) i j
  verdict_on_exact = demand_3_exact ours judged_t (sym met ∙ exact)

  -- and so is each pair in the words that an analysis of the same recipe left in a whole matrix
  pub verdict_on_exact_words :
      (m : List ℕ) → matrix_words ours.words ≤ length m → (m' : List ℕ) → m' ≡ matrix_after ours judged_t m
      → (i j : ℕ) → PairSet m' i j → MayMeet (program_of judged_t) (body (program_of judged_t) 0) i j
  verdict_on_exact_words = reported_exact judged_t (sym met ∙ exact)
