-- What the verdict exact means in the answer to a sheet: a refusal's line begins with another letter, so the answer is the listing of an admitted recipe, and says
-- exact exactly where that recipe has no self-calls from main on. `Answered` is what the contract of `answer` states. Assumes nothing.
use mathlib.Core.Path.{◌≡◌, refl, sym, ap, ◌∙◌, subst}
use mathlib.Core.Logic.{◌↔◌}
use mathlib.Core.List.{List, [], ◌++◌, append-nil}
use Prim.Native.Nat.{ℕ}
use native.Mathlib.Omega.{arith}
use lib.ListN.{length, get_or}
use lib.Seq.{drop-nil}
use Rattle.std.specs.Prelude.{Result, Ok, Err}
use Rattle.numbers.specs.General.{laid}
use Rattle.numbers.specs.Sizes.{ours, row_ceiling}
use Rattle.numbers.specs.declared.Refusal.{Refusal}
use Rattle.matrix.specs.Matrix.{marked}
use Rattle.calculus.specs.Syntax.{body}
use Rattle.calculus.specs.Enabled.{MayMeet}
use Rattle.recipe.specs.Records.{table_of_rows}
use Rattle.recipe.specs.Rules.{judged}
use Rattle.recipe.specs.Statements.{program_of}
use Rattle.recipe.specs.declared.Row.{Row}
use Rattle.table.specs.Reading.{Reading, table, refused}
use Rattle.sheet.specs.Reading.{read_sheet}
use Rattle.analysis.specs.Replies.{main_pairs}
use Rattle.listing.specs.Listing.{opening}
use Rattle.listing.specs.Replies.{held_after}
use Rattle.answer.specs.Answer.{refused_line, refusal_line, answer_to}
use Rattle.answer.proofs.Answers.{answer_refused, answer_judged, answer_listed}
use Rattle.answer.proofs.answer.Reads.{Post as answer-post}
use Rattle.demands.specs.Exact.{SaysExact, ExactRecipe}
use Rattle.demands.proofs.Demands.{demand_3_met}
use Rattle.demands.proofs.Entries.{listing_exactly}

-- the line of a refusal begins with another letter than an opening line
refusal_not_exact : (r : Refusal) (b : List ℕ) → SaysExact (laid (refusal_line r) b) → ⊥
unfolding refused_line opening
refusal_not_exact r b says = omega (arith, ap (λ (text : List ℕ). get_or text 0 0) says.bytes)

module _ (sheet b : List ℕ) where
  -- the answer that was laid in front
  abbrev shown : List ℕ
  shown = laid (answer_to ours sheet) b

  as_text : {text : List ℕ} → answer_to ours sheet ≡ text → SaysExact shown → SaysExact (laid text b)
  as_text e = subst (λ (text : List ℕ). SaysExact (laid text b)) e

  exact_recipe : SaysExact shown → ExactRecipe sheet
  exact_recipe says = by_reading (read_sheet ours row_ceiling ours.procs sheet) refl
    where
      by_judge :
          (rows : List Row) (roots : List ℕ) → read_sheet ours row_ceiling ours.procs sheet ≡ table rows roots
          → (j : Result Unit Refusal) → judged ours (table_of_rows rows roots) ≡ j → ExactRecipe sheet
      by_judge rows roots e (Ok _) ok =
          record {
            rows = rows;
            roots = roots;
            read = e;
            ok = ok;
            acyclic = (listing_exactly (program_of (table_of_rows rows roots)) b).0 (as_text (answer_listed ours sheet e ok) says);
          }
      by_judge rows roots e (Err r) why = absurd (refusal_not_exact r b (as_text (answer_judged ours sheet e why) says))

      by_reading : (w : Reading) → read_sheet ours row_ceiling ours.procs sheet ≡ w → ExactRecipe sheet
      by_reading (table rows roots) e = by_judge rows roots e (judged ours (table_of_rows rows roots)) refl
      by_reading (refused r) e = absurd (refusal_not_exact r b (as_text (answer_refused ours sheet e) says))

  recipe_exact : ExactRecipe sheet → SaysExact shown
  recipe_exact x =
      subst (λ (text : List ℕ). SaysExact (laid text b)) (sym (answer_listed ours sheet x.read x.ok))
      ((listing_exactly (program_of (table_of_rows x.rows x.roots)) b).1 x.acyclic)

-- the text that answers a sheet, which the program prints, says exact exactly where the sheet spells such a recipe
pub answer_text_exact : (sheet : List ℕ) → SaysExact (answer_to ours sheet) ↔ ExactRecipe sheet
answer_text_exact sheet =
    let text = answer_to ours sheet in
    subst (λ (x : List ℕ). SaysExact x ↔ ExactRecipe sheet) (ap (λ (x : List ℕ). text ++ x) (drop-nil (length text)) ∙ append-nil text)
    (exact_recipe sheet [], recipe_exact sheet [])

-- and so do the bytes after whatever meets the contract of `answer` and replies a length
pub answer_exact : (κs a r s : _) → answer-post κs a r s → (n : ℕ) → r ≡ Ok n → SaysExact s.1.0.now ↔ ExactRecipe a.0.now
answer_exact κs a r s met n done =
    subst (λ (x : List ℕ). SaysExact x ↔ ExactRecipe a.0.now)
    (sym (met.held ∙ ap (held_after (laid (answer_to ours a.0.now) a.1.0.now) a.1.0.now) done))
    (exact_recipe a.0.now a.1.0.now, recipe_exact a.0.now a.1.0.now)

-- any two labels that the analysis of that recipe pairs are then enabled at two different places in some reached state
pub exact_recipe_met :
    {sheet : List ℕ} (x : ExactRecipe sheet) {i j : ℕ}
    → let p = program_of (table_of_rows x.rows x.roots) in marked ours.words (main_pairs ours.words p) i j ≡ 1 → MayMeet p (body p 0) i j
exact_recipe_met x = demand_3_met ours (table_of_rows x.rows x.roots) x.ok x.acyclic
