-- Small sheets, computed by the definitions: what each line of the form's description comes to.
-- Assumes nothing.
use mathlib.Core.Path.{◌≡◌, refl, ap, ◌∙◌}
use mathlib.Core.List.{List, [], ◌∷◌}
use Prim.Native.Nat.{ℕ}
use native.Mathlib.Omega.{arith}
use lib.ListN.{length}
use Rattle.numbers.specs.Sizes.{ours, sheet_ceiling}
use Rattle.numbers.specs.declared.Refusal.TheVariants.{LongSheet}
use Rattle.recipe.specs.declared.Row.{Row}
use Rattle.table.specs.Reading.{table, refused}
use Rattle.text.specs.Bytes.{ascii, is_digit}
use Rattle.text.specs.Fields.{text_at, digits_at, digits_after, number_at}
use Rattle.text.specs.Numbers.{spelled_in, spelled}
use Rattle.sheet.specs.Form.{keyword, spelled_row, spelled_root, spell}
use Rattle.sheet.specs.Lines.{keyword_from, row_line_at, root_line_at, line_at}
use Rattle.sheet.specs.Reading.{wrong_form, no_room, step_of, read_lines, read_sheet}
use Rattle.sheet.proofs.StepLaws.{sheet_too_long, sheet_opened}

row : ℕ → ℕ → ℕ → Row
row k x y = record { kind = k; x = x; y = y }

-- Each kind's keyword, as bytes.
skip_is_spelled : keyword 0 ≡ 115 ∷ 107 ∷ 105 ∷ 112 ∷ []
skip_is_spelled = refl

step_is_spelled : keyword 1 ≡ 115 ∷ 116 ∷ 101 ∷ 112 ∷ []
step_is_spelled = refl

seq_is_spelled : keyword 2 ≡ 115 ∷ 101 ∷ 113 ∷ []
seq_is_spelled = refl

loop_is_spelled : keyword 3 ≡ 108 ∷ 111 ∷ 111 ∷ 112 ∷ []
loop_is_spelled = refl

async_is_spelled : keyword 4 ≡ 97 ∷ 115 ∷ 121 ∷ 110 ∷ 99 ∷ []
async_is_spelled = refl

finish_is_spelled : keyword 5 ≡ 102 ∷ 105 ∷ 110 ∷ 105 ∷ 115 ∷ 104 ∷ []
finish_is_spelled = refl

call_is_spelled : keyword 6 ≡ 99 ∷ 97 ∷ 108 ∷ 108 ∷ []
call_is_spelled = refl

-- There are no more kinds.
no_eighth_keyword : keyword 7 ≡ []
no_eighth_keyword = refl

-- A row's and a procedure's whole line, as bytes.
row_is_spelled : spelled_row (row 6 7 0) ≡ 82 ∷ 9 ∷ 99 ∷ 97 ∷ 108 ∷ 108 ∷ 9 ∷ 55 ∷ 9 ∷ 48 ∷ 10 ∷ []
unfolding spelled_row spelled spelled_in row
row_is_spelled = refl

root_is_spelled : spelled_root 15 ≡ 80 ∷ 9 ∷ 49 ∷ 53 ∷ 10 ∷ []
unfolding spelled_root spelled spelled_in
root_is_spelled = refl

-- A sheet has at most 65,536 bytes.
ceiling_as_number : sheet_ceiling ≡ 65536
ceiling_as_number = refl

-- One of so many is read, with room for 1,024 rows and 64 procedures however much is lent, and one of a byte more is refused.
longest_sheet_is_opened : (bytes : List ℕ) → length bytes ≡ 65536 → read_sheet ours 2000 100 bytes ≡ read_lines 1024 64 65536 [] [] bytes
longest_sheet_is_opened bytes e =
    sheet_opened ours 2000 100 bytes {R = 1024} {P = 64} (omega arith) refl refl ∙ ap (λ (k : ℕ). read_lines 1024 64 k [] [] bytes) e

one_byte_more_is_refused : (bytes : List ℕ) → length bytes ≡ 65537 → read_sheet ours 2000 100 bytes ≡ refused LongSheet
one_byte_more_is_refused bytes e = sheet_too_long ours 2000 100 bytes (omega arith)

-- A row of each kind, and a procedure.
every_kind : List ℕ
every_kind =
    ascii "R\tskip\t0\t0\nR\tstep\t63\t0\nR\tseq\t0\t1\nR\tloop\t2\t0\nR\tasync\t3\t0\nR\tfinish\t4\t0\nR\tcall\t0\t0\nP\t5\n"

rows : List Row
rows = row 0 0 0 ∷ row 1 63 0 ∷ row 2 0 1 ∷ row 3 2 0 ∷ row 4 3 0 ∷ row 5 4 0 ∷ row 6 0 0 ∷ []

spells_every_kind : spell rows (5 ∷ []) ≡ every_kind
unfolding spell mathlib.Core.List.flat_map spelled_row spelled_root spelled spelled_in every_kind rows row
spells_every_kind = refl

reads_every_kind : read_sheet ours 7 1 every_kind ≡ table rows (5 ∷ [])
unfolding read_sheet read_lines step_of line_at row_line_at root_line_at text_at keyword_from number_at digits_at digits_after is_digit every_kind rows row
reads_every_kind = refl

reads_nothing : read_sheet ours 0 0 [] ≡ table [] []
unfolding read_sheet read_lines
reads_nothing = refl

-- One row more than there is room for, though the line after it is wrong.
no_room_decides : read_sheet ours 1 1 (ascii "R\tstep\t5\t0\nR\tstep\t5\t0\n\r") ≡ refused (no_room 1)
unfolding read_sheet read_lines step_of line_at row_line_at text_at keyword_from number_at digits_at digits_after is_digit
no_room_decides = refl

-- A row after a procedure is wrong, though the rows are full.
late_row_is_wrong : read_sheet ours 1 1 (ascii "R\tstep\t5\t0\nP\t0\nR\tstep\t5\t0\n") ≡ refused (wrong_form 2)
unfolding read_sheet read_lines step_of line_at row_line_at root_line_at text_at keyword_from number_at digits_at digits_after is_digit
late_row_is_wrong = refl

-- A last line without its newline is wrong, though it would be one row too many.
open_line_is_wrong : read_sheet ours 1 1 (ascii "R\tstep\t5\t0\nR\tstep\t5\t0") ≡ refused (wrong_form 1)
unfolding read_sheet read_lines step_of line_at row_line_at text_at keyword_from number_at digits_at digits_after is_digit
open_line_is_wrong = refl

-- A line ends with a newline alone.
carriage_return_is_wrong : read_sheet ours 1 1 (ascii "P\t0\r\n") ≡ refused (wrong_form 0)
unfolding read_sheet read_lines step_of line_at root_line_at text_at number_at digits_at digits_after is_digit
carriage_return_is_wrong = refl

leading_zero_is_wrong : read_sheet ours 1 1 (ascii "P\t00\n") ≡ refused (wrong_form 0)
unfolding read_sheet read_lines step_of line_at root_line_at text_at number_at digits_at digits_after is_digit
leading_zero_is_wrong = refl

five_digits_are_wrong : read_sheet ours 1 1 (ascii "P\t10000\n") ≡ refused (wrong_form 0)
unfolding read_sheet read_lines step_of line_at root_line_at text_at number_at digits_at digits_after is_digit
five_digits_are_wrong = refl

four_digits_are_read : read_sheet ours 1 1 (ascii "P\t9999\n") ≡ table [] (9999 ∷ [])
unfolding read_sheet read_lines step_of line_at root_line_at text_at number_at digits_at digits_after is_digit
four_digits_are_read = refl
