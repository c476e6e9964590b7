-- One body further: its summary goes to its own place, and the others stay as they were.
-- Assumes nothing.
use mathlib.Core.Path.{◌≡◌, refl, sym, ap, ◌∙◌, subst}
use mathlib.Core.List.{List}
use Prim.Native.Nat.{ℕ, ◌+◌, ◌≤◌, ◌<◌}
use native.Mathlib.Decide.{ℕ_discrete}
use native.Mathlib.Omega.{arith}
use lib.ListN.{length, set, length-set}
use Rattle.std.proofs.lemmas.List.{get_or-set_same, get_or-set_other}
use Rattle.recipe.specs.Statements.{program_of}
use Rattle.recipe.specs.Tables.{Table, procs, root_at}
use Rattle.recipe.proofs.Readings.{body_of_root}
use Rattle.analysis.specs.Summaries.{WordSummary, words_of}
use Rattle.analysis.specs.declared.summary.Summary.{Summary}
use Rattle.analysis.specs.Inner.{words_in, no_summary, held_for, row_words, body_words}

-- A round so far: the first f summaries are those of the bodies, and the others are as they were.
pub record Rounding (bodies : ℕ → WordSummary) (first new : List Summary) (f : ℕ) : Type 0 where
  pub done : (g : ℕ) → g < f → held_for new g ≡ bodies g
  pub rest : (g : ℕ) → f ≤ g → held_for new g ≡ held_for first g
  pub size : length new ≡ length first

pub round_begins : (bodies : ℕ → WordSummary) (first : List Summary) → Rounding bodies first first 0
round_begins bodies first = record { done = λ g h. absurd (omega arith); rest = λ g h. refl; size = refl }

pub round_goes_on :
    {bodies : ℕ → WordSummary} {first new : List Summary} {f : ℕ} (s : Summary) → Rounding bodies first new f → f < length first
    → words_in s ≡ bodies f → Rounding bodies first (set new f s) (f + 1)
round_goes_on {bodies} {first} {new} {f} s r there e =
    record {
      done = λ g h. so_far g h (ℕ_discrete g f);
      rest = λ g h. other g (λ d. omega arith) ∙ r.rest g (omega arith);
      size = length-set new f s ∙ r.size;
    }
  where
    other : (g : ℕ) → (g ≡ f → ⊥) → held_for (set new f s) g ≡ held_for new g
    other g d = ap words_in (get_or-set_other new f g s no_summary d)

    so_far : (g : ℕ) → g < f + 1 → Dec (g ≡ f) → held_for (set new f s) g ≡ bodies g
    so_far g h (yes d) = subst (λ (k : ℕ). held_for (set new f s) k ≡ bodies k) (sym d) (ap words_in (get_or-set_same new f s no_summary (omega (arith, there, r.size))) ∙ e)
    so_far g h (no d) = other g d ∙ r.done g (omega arith)

-- a procedure's body is the statement of its root
pub root_body :
    (w : ℕ) (t : Table) (held : List Summary) (f : ℕ) → f < procs t → row_words w t held (root_at t f) ≡ body_words w (program_of t) held f
root_body w t held f h = ap (words_of w (held_for held)) (sym (body_of_root t f h))
