-- A line is read exactly where it is spelled: field by field, each read exactly where it is spelled.
-- Assumes nothing.
use mathlib.Core.Path.{◌≡◌, refl, sym, ap, ◌∙◌, subst}
use mathlib.Core.List.{List, [], ◌∷◌, ◌++◌, append_assoc}
use Prim.Native.Nat.{ℕ, ◌≤◌, ◌<◌}
use native.Mathlib.Omega.{arith}
use lib.ListN.{length, length-append}
use Rattle.recipe.specs.declared.Row.{Row}
use Rattle.text.specs.Bytes.{tab, newline}
use Rattle.text.proofs.DigitLaws.{tab_no_digit, newline_no_digit}
use Rattle.text.specs.Numbers.{spelled}
use Rattle.text.specs.Fields.{Field, holds, broken, text_at, number_at}
use Rattle.text.proofs.FieldForms.{text_read, number_read, number_reads}
use Rattle.sheet.specs.Form.{keyword, spelled_row, spelled_root, Short, ShortRow}
use Rattle.sheet.specs.Lines.{Line, row_mark, root_mark, keyword_at, no_line, row_line, root_line, wrong_line, row_line_at, root_line_at, line_at}
use Rattle.sheet.proofs.KeywordLaws.{kind_small, keyword_read, keyword_reads}
use Rattle.sheet.proofs.LineLaws.{no_keyword, no_x, no_y, row_read, no_root, root_read, row_marked, root_marked, unmarked}

-- What follows the mark of a row line.
fields : Row → List ℕ → List ℕ
fields row t = (keyword row.kind ++ (tab ∷ [])) ++ (spelled row.x ++ (tab ∷ (spelled row.y ++ (newline ∷ t))))

row_line_lem : (row : Row) (t : List ℕ) → spelled_row row ++ t ≡ 82 ∷ tab ∷ fields row t
unfolding spelled_row fields
row_line_lem row t = simp append_assoc

root_line_lem : (root : ℕ) (t : List ℕ) → spelled_root root ++ t ≡ 80 ∷ tab ∷ (spelled root ++ (newline ∷ t))
unfolding spelled_root
root_line_lem root t = simp append_assoc

-- Spelled, hence read.
pub row_line_reads : (row : Row) (t : List ℕ) → ShortRow row → line_at (spelled_row row ++ t) ≡ row_line row t
unfolding line_at text_at fields
row_line_reads row t h =
    ap line_at (row_line_lem row t)
    ∙ sym
    (row_read (fields row t) row.kind _ (sym (keyword_reads row.kind _ h.kind))
    row.x _ (sym (number_reads tab tab_no_digit row.x _ h.x))
    row.y t (sym (number_reads newline newline_no_digit row.y t h.y)))

pub root_line_reads : (root : ℕ) (t : List ℕ) → Short root → line_at (spelled_root root ++ t) ≡ root_line root t
unfolding line_at text_at
root_line_reads root t h =
    ap line_at (root_line_lem root t)
    ∙ sym (root_read (spelled root ++ (newline ∷ t)) root t (sym (number_reads newline newline_no_digit root t h)))

together :
    (k x y : ℕ) (t : List ℕ)
    → (keyword k ++ (tab ∷ [])) ++ (spelled x ++ (tab ∷ (spelled y ++ (newline ∷ t)))) ≡ fields (record { kind = k; x = x; y = y }) t
unfolding fields
together k x y t = refl

-- Read, hence spelled.
-- What follows a row's mark is a row's fields or is wrong.
data RowFields (s : List ℕ) : Type 0 where
  row_fields : (row : Row) (t : List ℕ) → s ≡ fields row t → ShortRow row → row_line_at s ≡ row_line row t → RowFields s
  wrong_row : row_line_at s ≡ wrong_line → RowFields s

row_fields_of : (s : List ℕ) → RowFields s
row_fields_of s = by_kind (keyword_at s) refl
  where
    by_y :
        (k x : ℕ) (s₁ s₂ : List ℕ) → holds k s₁ ≡ keyword_at s → holds x s₂ ≡ number_at tab s₁
        → (f : Field) → number_at newline s₂ ≡ f → RowFields s
    by_y k x s₁ s₂ a b broken h = wrong_row (sym (no_y s k s₁ a x s₂ b (sym h)))
    by_y k x s₁ s₂ a b (holds y t) h =
        let px = number_read tab s₁ (sym b) in
        let py = number_read newline s₂ h in
        row_fields (record { kind = k; x = x; y = y }) t
        (keyword_read s a ∙ ap (◌++◌ (keyword k ++ (tab ∷ []))) (px.0 ∙ ap (λ (u : List ℕ). spelled x ++ (tab ∷ u)) py.0) ∙ together k x y t)
        (record { kind = kind_small s a; x = omega (arith, px.1); y = omega (arith, py.1) })
        (sym (row_read s k s₁ a x s₂ b y t (sym h)))

    by_x : (k : ℕ) (s₁ : List ℕ) → holds k s₁ ≡ keyword_at s → (f : Field) → number_at tab s₁ ≡ f → RowFields s
    by_x k s₁ a broken h = wrong_row (sym (no_x s k s₁ a (sym h)))
    by_x k s₁ a (holds x s₂) h = by_y k x s₁ s₂ a (sym h) (number_at newline s₂) refl

    by_kind : (f : Field) → keyword_at s ≡ f → RowFields s
    by_kind broken h = wrong_row (sym (no_keyword s (sym h)))
    by_kind (holds k s₁) h = by_x k s₁ (sym h) (number_at tab s₁) refl

-- What follows a procedure's mark is its root or is wrong.
data RootField (s : List ℕ) : Type 0 where
  root_field : (root : ℕ) (t : List ℕ) → s ≡ spelled root ++ (newline ∷ t) → Short root → root_line_at s ≡ root_line root t → RootField s
  wrong_root : root_line_at s ≡ wrong_line → RootField s

root_field_of : (s : List ℕ) → RootField s
root_field_of s = by_root (number_at newline s) refl
  where
    by_root : (f : Field) → number_at newline s ≡ f → RootField s
    by_root broken h = wrong_root (sym (no_root s (sym h)))
    by_root (holds root t) h =
        let p = number_read newline s h in root_field root t p.0 (omega (arith, p.1)) (sym (root_read s root t (sym h)))

-- What stands at the front where this line is read: nothing, a row or a root as it is spelled, or a wrong line.
data Front (s : List ℕ) : Line → Type 0 where
  nothing : s ≡ [] → Front s no_line
  a_row : {row : Row} {t : List ℕ} → s ≡ spelled_row row ++ t → ShortRow row → Front s (row_line row t)
  a_root : {root : ℕ} {t : List ℕ} → s ≡ spelled_root root ++ t → Short root → Front s (root_line root t)
  wrong : Front s wrong_line

front : (s : List ℕ) → Front s (line_at s)
unfolding line_at
front [] = nothing refl
front (b ∷ s) = by_mark_lem (text_at row_mark 0 (b ∷ s)) refl (text_at root_mark 0 (b ∷ s)) refl
  where
    by_row : (t : List ℕ) → b ∷ s ≡ row_mark ++ t → RowFields t → Front (b ∷ s) (row_line_at t)
    by_row t e (row_fields row u f h g) = rw g (a_row (e ∙ ap (◌++◌ row_mark) f ∙ sym (row_line_lem row u)) h)
    by_row t e (wrong_row g) = rw g wrong

    by_root : (t : List ℕ) → b ∷ s ≡ root_mark ++ t → RootField t → Front (b ∷ s) (root_line_at t)
    by_root t e (root_field root u f h g) = rw g (a_root (e ∙ ap (◌++◌ root_mark) f ∙ sym (root_line_lem root u)) h)
    by_root t e (wrong_root g) = rw g wrong

    by_mark_lem : (f : Field) → text_at row_mark 0 (b ∷ s) ≡ f → (g : Field) → text_at root_mark 0 (b ∷ s) ≡ g → Front (b ∷ s) (line_at (b ∷ s))
    by_mark_lem (holds n t) h g k =
        subst (Front (b ∷ s)) (row_marked b s (sym h)) (by_row t (text_read row_mark 0 (b ∷ s) h).1 (row_fields_of t))
    by_mark_lem broken h (holds n t) k =
        subst (Front (b ∷ s)) (root_marked b s (sym h) (sym k)) (by_root t (text_read root_mark 0 (b ∷ s) k).1 (root_field_of t))
    by_mark_lem broken h broken k = subst (Front (b ∷ s)) (unmarked b s (sym h) (sym k)) wrong

-- So each line that is read stands there as it is spelled.
pub row_spelled : (s : List ℕ) {row : Row} {t : List ℕ} → line_at s ≡ row_line row t → (s ≡ spelled_row row ++ t) × ShortRow row
row_spelled s {row} {t} l = of_row (subst (Front s) l (front s))
  where
    of_row : Front s (row_line row t) → (s ≡ spelled_row row ++ t) × ShortRow row
    of_row (a_row e h) = (e, h)

pub root_spelled : (s : List ℕ) {root : ℕ} {t : List ℕ} → line_at s ≡ root_line root t → (s ≡ spelled_root root ++ t) × Short root
root_spelled s {root} {t} l = of_root (subst (Front s) l (front s))
  where
    of_root : Front s (root_line root t) → (s ≡ spelled_root root ++ t) × Short root
    of_root (a_root e h) = (e, h)

pub end_spelled : (s : List ℕ) → line_at s ≡ no_line → s ≡ []
end_spelled s l = of_end (subst (Front s) l (front s))
  where
    of_end : Front s no_line → s ≡ []
    of_end (nothing e) = e

-- And leaves fewer bytes.
some_row : (row : Row) → 1 ≤ length (spelled_row row)
unfolding spelled_row
some_row row = omega arith

some_root : (root : ℕ) → 1 ≤ length (spelled_root root)
unfolding spelled_root
some_root root = omega arith

pub row_shorter : (s : List ℕ) {row : Row} {t : List ℕ} → line_at s ≡ row_line row t → length t < length s
row_shorter s {row} {t} l = omega (arith, some_row row, ap length (row_spelled s l).0, length-append (spelled_row row) t)

pub root_shorter : (s : List ℕ) {root : ℕ} {t : List ℕ} → line_at s ≡ root_line root t → length t < length s
root_shorter s {root} {t} l = omega (arith, some_root root, ap length (root_spelled s l).0, length-append (spelled_root root) t)
