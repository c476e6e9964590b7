-- The reply goes by the judge's, and of an admitted table by the room: an analysis of an admitted table into a whole matrix of its own is never refused,
-- and gives main's pairs. Assumes nothing.
use mathlib.Core.Path.{◌≡◌, sym, ap, ◌∙◌}
use mathlib.Core.Bool.{Bool, cond}
use mathlib.Core.List.{List, ◌++◌, append-nil}
use Prim.Native.Nat.{ℕ, ◌≤◌, ◌<◌}
use native.Mathlib.Nat.{le_of_eq}
use borrow.Author.Tests.{le-leb, lt-leb}
use lib.ListN.{length, drop_of_length-le}
use Rattle.std.specs.Prelude.{Result, Ok, Err}
use Rattle.numbers.specs.Sizes.{Size, matrix_words}
use Rattle.numbers.specs.declared.Refusal.{Refusal}
use Rattle.numbers.specs.declared.Refusal.TheVariants.{ShortBytes}
use Rattle.calculus.specs.Syntax.{Program}
use Rattle.recipe.specs.Rules.{IsAdmitted, judged_with}
use Rattle.recipe.specs.Statements.{program_of}
use Rattle.recipe.specs.Tables.{Table}
use Rattle.recipe.proofs.WithMatrix.{admitted_still}
use Rattle.analysis.specs.Replies.{rounds, main_pairs, analysed_as, analysed, matrix_as, matrix_after}
use Rattle.analysis.proofs.ReplyLaws.{as_judged}
use Rattle.analysis.proofs.Shape.{shaped_after}
use Rattle.listing.specs.Replies.{fitted, listed_as, held_after, listed, matrix_listed, bytes_listed}

-- ---- a text and room for it, and what a refusal leaves

pub too_long_lem : (text : List ℕ) (room : ℕ) → room < length text → Err ShortBytes ≡ fitted text room
unfolding fitted
too_long_lem text room h =
    sym (ap (λ (b : Bool). cond b (Ok (length text)) (Err ShortBytes)) (lt-leb (length text) room h))

pub fits : (text : List ℕ) (room : ℕ) → length text ≤ room → Ok (length text) ≡ fitted text room
unfolding fitted
fits text room h =
    sym (ap (λ (b : Bool). cond b (Ok (length text)) (Err ShortBytes)) (le-leb (length text) room h))

pub unchanged : (new old : List ℕ) {x : Result ℕ Refusal} {r : Refusal} → x ≡ Err r → held_after new old x ≡ old
unchanged new old e = ap (held_after new old) e

-- ---- what an admitted table gives

module _ (z : Size) (t : Table) (ok : IsAdmitted z t) where
  abbrev p : Program
  p = program_of t

  abbrev w : ℕ
  w = z.words

  pub analysed_admitted : (words : ℕ) → matrix_words w ≤ words → analysed z t words ≡ Ok (rounds w p)
  unfolding analysed
  analysed_admitted words h = ap (analysed_as z p) (admitted_still z t words ok h)

  -- Main's pairs are a whole matrix, so that nothing of a whole matrix lies beyond them.
  pub pairs_given : (m : List ℕ) → length m ≡ matrix_words w → matrix_after z t m ≡ main_pairs w p
  unfolding matrix_after
  pairs_given m e =
      ap (matrix_as z p m) (admitted_still z t (length m) ok (le_of_eq (sym e)))
      ∙ ap (λ (x : List ℕ). main_pairs w p ++ x) (drop_of_length-le m (le_of_eq (e ∙ sym (shaped_after w p (rounds w p) 0).M.size)))
      ∙ append-nil (main_pairs w p)

-- ---- what a refused table gives

module _ (z : Size) (t : Table) (m b : List ℕ) where
  pub refused_listing :
      {r : Refusal} → judged_with z t (length m) ≡ Err r
      → (Err r ≡ listed z t (length m) (length b)) × ((m ≡ matrix_listed z t m (length b)) × (b ≡ bytes_listed z t (length m) b))
  unfolding listed matrix_listed bytes_listed
  refused_listing e =
      let said = ap (listed_as z (program_of t) (length b)) e in
      (sym said, (sym (unchanged _ m said), sym (unchanged _ b said)))

-- What holds past the judge's yes.
pub ruleset in_order = (as_judged, refused_listing)
