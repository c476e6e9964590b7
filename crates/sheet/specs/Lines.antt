-- The line at the front of some bytes, read field by field from the left, together with the bytes after it.
use Rattle.std.specs.Prelude.{List, [], ◌∷◌, ◌++◌, ℕ, ◌+◌}
use Rattle.recipe.specs.declared.Row.{Row}
use Rattle.text.specs.Bytes.{ascii, tab, newline}
use Rattle.text.specs.Fields.{Field, holds, broken, text_at, number_at}
use Rattle.sheet.specs.Form.{keywords}

-- A row line begins with R and a tab.
abbrev pub row_mark : List ℕ
row_mark = ascii "R\t"

-- A procedure line begins with P and a tab.
abbrev pub root_mark : List ℕ
root_mark = ascii "P\t"

-- The first of two fields that is of the right form.
abbrev pub or_else : Field → Field → Field
or_else (holds n s) other = holds n s
or_else broken other = other

-- The kind whose keyword stands here before a tab, looked for among these keywords, the first being that of kind k.
unfoldable pub keyword_from : ℕ → List (List ℕ) → List ℕ → Field
keyword_from k [] s = broken
keyword_from k (w ∷ ws) s = or_else (text_at (w ++ (tab ∷ [])) k s) (keyword_from (k + 1) ws s)

-- The kind whose keyword stands here before a tab.
abbrev pub keyword_at : List ℕ → Field
keyword_at s = keyword_from 0 keywords s

-- A line: the end of the sheet, a row or a procedure's root with the bytes after its line, or a line of wrong form.
pub data Line : Type 0 where
  no_line : Line
  row_line : Row → List ℕ → Line
  root_line : ℕ → List ℕ → Line
  wrong_line : Line

-- A line goes on after a field of the right form, and is wrong after any other.
abbrev pub and_then : Field → (ℕ → List ℕ → Line) → Line
and_then (holds n s) line = line n s
and_then broken line = wrong_line

-- A row line after its mark: the kind's keyword, x and y.
unfoldable pub row_line_at : List ℕ → Line
row_line_at s =
    and_then (keyword_at s) (λ k s1.
    and_then (number_at tab s1) (λ x s2.
    and_then (number_at newline s2) (λ y s3.
    row_line (record { kind = k; x = x; y = y }) s3)))

-- A procedure line after its mark: the root.
unfoldable pub root_line_at : List ℕ → Line
root_line_at s = and_then (number_at newline s) (λ root s1. root_line root s1)

-- The line by the mark that it begins with: that of a row, that of a procedure, or none.
abbrev pub by_mark : Field → Field → Line
by_mark (holds n s) rootMarked = row_line_at s
by_mark broken (holds n s) = root_line_at s
by_mark broken broken = wrong_line

-- The line that the bytes begin with.
unfoldable pub line_at : List ℕ → Line
line_at [] = no_line
line_at (b ∷ s) = by_mark (text_at row_mark 0 (b ∷ s)) (text_at root_mark 0 (b ∷ s))
