-- Sizes are tried first, then the matrix, then the rest; so what is admitted with a matrix is what is admitted, and the matrix is whole.
-- Assumes nothing.
use mathlib.Core.Bool.{Bool, true, false, not}
use mathlib.Core.List.{[], ◌∷◌}
use mathlib.Core.Path.{◌≡◌, refl, sym, ap, ◌∙◌}
use Prim.Native.Nat.{ℕ, ◌≤◌, ◌<◌}
use native.Mathlib.Omega.{arith}
use borrow.Author.Tests.{lt-ltb, le-ltb, ltb-false}
use lib.Dec.{ltb}
use Rattle.numbers.specs.Sizes.{Size, matrix_words}
use Rattle.numbers.specs.declared.Refusal.TheVariants.{Sizes, ShortMatrix}
use Rattle.recipe.specs.Rules.{sizes_fit, matrix_rule, further_rules, judged_by, judged, judged_with, IsAdmitted}
use Rattle.recipe.specs.Inner.{Kept}
use Rattle.recipe.specs.Tables.{Table}
use Rattle.std.specs.Prelude.{Ok, Err}
use Rattle.recipe.proofs.Admitted.{sizes_right_lem}
use Rattle.recipe.proofs.Judging.{in_order, refused_before, whole_broken, whole_kept, sizes_passed, sizes_test, all_passed}

module _ (z : Size) (t : Table) (words : ℕ) where
  abbrev short : Bool
  short = ltb words (matrix_words z.words)

  to_matrix : sizes_fit z t ≡ true → judged_with z t words ≡ judged_by (matrix_rule z words ∷ further_rules z t)
  unfolding judged_with
  to_matrix e = whole_kept Sizes (matrix_rule z words ∷ further_rules z t) (not (sizes_fit z t)) (ap not e)

  pub wrong_sizes : sizes_fit z t ≡ false → Err Sizes ≡ judged_with z t words
  unfolding judged_with
  wrong_sizes e = sym (whole_broken Sizes (matrix_rule z words ∷ further_rules z t) (not (sizes_fit z t)) (ap not e))

  past_matrix : sizes_fit z t ≡ true → short ≡ false → judged_with z t words ≡ judged z t
  past_matrix e f = to_matrix e ∙ whole_kept ShortMatrix (further_rules z t) short f ∙ sym (sizes_passed z t e)

  pub too_short : words < matrix_words z.words → Err ShortMatrix ≡ judged_by (matrix_rule z words ∷ [])
  too_short h = sym (whole_broken ShortMatrix [] short (lt-ltb words (matrix_words z.words) h))

  pub short_matrix : sizes_fit z t ≡ true → words < matrix_words z.words → Err ShortMatrix ≡ judged_with z t words
  short_matrix e h = refused_before (matrix_rule z words) (further_rules z t) (too_short h) ∙ sym (to_matrix e)

  pub long_enough : matrix_words z.words ≤ words → Kept (matrix_rule z words)
  long_enough h = sym (whole_kept ShortMatrix [] short (le-ltb words (matrix_words z.words) h) ∙ all_passed)

  pub whole_matrix : sizes_fit z t ≡ true → matrix_words z.words ≤ words → judged z t ≡ judged_with z t words
  whole_matrix e h = sym (past_matrix e (le-ltb words (matrix_words z.words) h))

  -- what is admitted still is with a whole matrix
  pub admitted_still : IsAdmitted z t → matrix_words z.words ≤ words → judged_with z t words ≡ Ok tt
  admitted_still ok whole = sym (whole_matrix (sizes_test (sizes_right_lem z t ok)) whole) ∙ ok

  -- what is admitted with a matrix
  pub admitted_with : judged_with z t words ≡ Ok tt → IsAdmitted z t × (matrix_words z.words ≤ words)
  admitted_with e = go (sizes_fit z t) refl short refl
    where
      go : (a : Bool) → sizes_fit z t ≡ a → (b : Bool) → short ≡ b → IsAdmitted z t × (matrix_words z.words ≤ words)
      go true p true q =
          let n : ◌≡◌ {A = ℕ} 0 1 = cc (to_matrix p, whole_broken ShortMatrix (further_rules z t) short q) in absurd (omega arith)
      go true p false q = (sym (past_matrix p q) ∙ e, ltb-false words (matrix_words z.words) q)
      go false p b q = let n : ◌≡◌ {A = ℕ} 0 1 = cc (wrong_sizes p) in absurd (omega arith)

-- The rule on the matrix as one of those that are checked one after the other.
pub ruleset matrix_in_order = (too_short, long_enough, in_order)
