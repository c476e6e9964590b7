-- The reply and the later matrix go by the judge's reply.
-- Assumes nothing.
use mathlib.Core.Path.{◌≡◌, sym, ap, ◌∙◌}
use mathlib.Core.List.{List}
use Prim.Native.Nat.{ℕ, ◌≤◌}
use lib.ListN.{length}
use Rattle.std.specs.Prelude.{Ok, Err}
use Rattle.numbers.specs.Sizes.{Size, matrix_words}
use Rattle.numbers.specs.General.{laid}
use Rattle.numbers.specs.declared.Refusal.{Refusal}
use Rattle.recipe.specs.Rules.{judged_with, IsAdmitted}
use Rattle.recipe.specs.Statements.{program_of}
use Rattle.recipe.specs.Tables.{Table}
use Rattle.recipe.proofs.WithMatrix.{admitted_with}
use Rattle.analysis.specs.Replies.{rounds, main_pairs, analysed_as, matrix_as, analysed, matrix_after}

module _ (z : Size) (t : Table) (m : List ℕ) where
  pub refused_reply :
      {r : Refusal} → judged_with z t (length m) ≡ Err r → (Err r ≡ analysed z t (length m)) × (m ≡ matrix_after z t m)
  unfolding analysed matrix_after
  refused_reply e = (sym (ap (analysed_as z (program_of t)) e), sym (ap (matrix_as z (program_of t) m) e))

  pub admitted_reply :
      {k : ℕ} {m' : List ℕ} → judged_with z t (length m) ≡ Ok tt → k ≡ rounds z.words (program_of t)
      → m' ≡ laid (main_pairs z.words (program_of t)) m → (Ok k ≡ analysed z t (length m)) × (m' ≡ matrix_after z t m)
  unfolding analysed matrix_after
  admitted_reply e p q = (ap Ok p ∙ sym (ap (analysed_as z (program_of t)) e), q ∙ sym (ap (matrix_as z (program_of t) m) e))

  -- what the judge admits with a matrix is admitted, and the matrix is whole
  pub admitted_at : judged_with z t (length m) ≡ Ok tt → IsAdmitted z t
  admitted_at e = (admitted_with z t (length m) e).0

  pub whole_at : judged_with z t (length m) ≡ Ok tt → matrix_words z.words ≤ length m
  whole_at e = (admitted_with z t (length m) e).1

-- What holds past the judge's yes.
pub ruleset as_judged = (admitted_at, whole_at)
