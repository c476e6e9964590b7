-- The lines of a sheet in turn: those of the rows by their places, and then those of the roots.
-- Assumes nothing.
use mathlib.Core.Path.{◌≡◌, refl, sym, ap, ◌∙◌}
use mathlib.Core.List.{List, [], ◌∷◌, ◌++◌, flat_map}
use Prim.Native.Nat.{ℕ, zero, suc, ◌+◌}
use lib.ListN.{length, get_or, length-append}
use Rattle.std.proofs.lemmas.List.Concat.{length-flat_map}
use Rattle.std.specs.List.{sum_by}
use Rattle.numbers.specs.General.{in_turn}
use Rattle.numbers.proofs.InTurnLaws.{list_of_ones}
use Rattle.recipe.specs.Tables.{Table, rows}
use Rattle.sheet.specs.Form.{spelled_row, spelled_root, spell}
use Rattle.sheet.proofs.Outcomes.{spelled_on}
use Rattle.writer.specs.Sheets.{row_at, sheet_of}
use Rattle.writer.specs.Inner.{row_lines}

-- The lines of single elements in turn.
lines_in_turn : {A : Type 0} (f : A → List ℕ) (g : ℕ → A) (n : ℕ) → flat_map f (in_turn n (λ i. g i ∷ [])) ≡ in_turn n (λ i. f (g i))
unfolding in_turn flat_map
lines_in_turn f g zero = refl
lines_in_turn f g (suc n) = spelled_on f (in_turn n (λ i. g i ∷ [])) (g n) ∙ ap (λ (s : List ℕ). s ++ f (g n)) (lines_in_turn f g n)

pub rows_in_turn : (t : Table) → row_lines t ≡ in_turn (rows t) (λ i. spelled_row (row_at t i))
rows_in_turn t = lines_in_turn spelled_row (row_at t) (rows t)

pub roots_in_turn : (roots : List ℕ) → flat_map spelled_root roots ≡ in_turn (length roots) (λ f. spelled_root (get_or roots f 0))
roots_in_turn roots =
    ap (flat_map spelled_root) (sym (list_of_ones roots 0)) ∙ lines_in_turn spelled_root (λ f. get_or roots f 0) (length roots)

-- The length of lines is the sum of their lengths.
pub length_lines : {A : Type 0} (f : A → List ℕ) (l : List A) → length (flat_map f l) ≡ sum_by (λ a. length (f a)) l
unfolding flat_map
length_lines f l = length-flat_map f l

-- A sheet: the lines of the rows, then those of the roots.
pub sheet_lines : (t : Table) → sheet_of t ≡ row_lines t ++ flat_map spelled_root t.roots
unfolding sheet_of spell
sheet_lines t = refl

pub length_sheet : (t : Table) → length (sheet_of t) ≡ length (row_lines t) + length (flat_map spelled_root t.roots)
length_sheet t = ap length (sheet_lines t) ∙ length-append (row_lines t) (flat_map spelled_root t.roots)
