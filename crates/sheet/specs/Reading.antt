-- Reading a sheet from line to line: the rows, then the procedures. The first line that is wrong or has no room decides.
use Rattle.std.specs.Prelude.{cond, List, [], ◌∷◌, ◌++◌, ℕ, zero, suc, ◌+◌, min, ltb, leb, length}
use Rattle.numbers.specs.Sizes.{Size, row_ceiling, sheet_ceiling}
use Rattle.numbers.specs.declared.Refusal.{Refusal}
use Rattle.numbers.specs.declared.Refusal.TheVariants.{LongSheet, WrongForm, NoRoom}
use Rattle.recipe.specs.declared.Row.{Row}
use Rattle.table.specs.Reading.{Reading, table, refused, row_places}
use Rattle.sheet.specs.Lines.{Line, line_at, no_line, row_line, root_line, wrong_line}

-- What is done with a line: the sheet ends, the line is refused, or its row or root is kept and the bytes after it are next.
pub data Step : Type 0 where
  done : Step
  refuse : Refusal → Step
  keep_row : Row → List ℕ → Step
  keep_root : ℕ → List ℕ → Step

-- Line i breaks the form.
abbrev pub wrong_form : ℕ → Refusal
wrong_form i = WrongForm (record { 0 = i })

-- Line i finds no room.
abbrev pub no_room : ℕ → Refusal
no_room i = NoRoom (record { 0 = i })

-- What is done with a line where n rows and m roots are kept already, with room for R rows and P roots.
-- Each line before it is kept, so it is line n + m. A row after a root is wrong, however much room there is.
unfoldable pub step_of : ℕ → ℕ → ℕ → ℕ → Line → Step
step_of R P n m no_line = done
step_of R P n m wrong_line = refuse (wrong_form (n + m))
step_of R P n m (row_line row rest) =
    cond (ltb 0 m) (refuse (wrong_form (n + m))) (cond (ltb n R) (keep_row row rest) (refuse (no_room (n + m))))
step_of R P n m (root_line root rest) = cond (ltb m P) (keep_root root rest) (refuse (no_room (n + m)))

-- The reading after a step, where these rows and roots are kept: it is over, or `onward` reads the next line.
abbrev pub after_step : (List Row → List ℕ → List ℕ → Reading) → List Row → List ℕ → Step → Reading
after_step onward rows roots done = table rows roots
after_step onward rows roots (refuse why) = refused why
after_step onward rows roots (keep_row row rest) = onward (rows ++ (row ∷ [])) roots rest
after_step onward rows roots (keep_root root rest) = onward rows (roots ++ (root ∷ [])) rest

-- The reading of at most k lines, where these rows and roots are kept already and these bytes are left.
unfoldable pub read_lines : ℕ → ℕ → ℕ → List Row → List ℕ → List ℕ → Reading
read_lines R P zero rows roots s = table rows roots
read_lines R P (suc k) rows roots s =
    after_step (read_lines R P k) rows roots (step_of R P (length rows) (length roots) (line_at s))

-- A whole sheet, with so many places lent for rows and for roots. It has no more lines than bytes.
unfoldable pub read_sheet : Size → ℕ → ℕ → List ℕ → Reading
read_sheet z rowsLent rootsLent bytes =
    cond (leb (length bytes) sheet_ceiling)
    (read_lines (min row_ceiling rowsLent) (min z.procs rootsLent) (length bytes) [] [] bytes)
    (refused LongSheet)

-- The reading into slices that hold these lists: of the three slices for rows, the shortest counts.
abbrev pub read_into : Size → List ℕ → List ℕ → List ℕ → List ℕ → List ℕ → Reading
read_into z bytes kinds xs ys roots = read_sheet z (row_places kinds xs ys) (length roots) bytes
