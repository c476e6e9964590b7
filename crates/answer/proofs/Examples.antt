-- Small answers, computed by the definitions, byte for byte: a wrong line, no lines, and a root that is no row.
-- Assumes nothing.
use mathlib.Core.Path.{◌≡◌, refl}
use Rattle.numbers.specs.General.{lowest}
use Rattle.numbers.specs.Sizes.{ours}
use Rattle.text.specs.Bytes.{ascii, is_digit}
use Rattle.text.specs.Fields.{text_at, digits_at, digits_after, number_at}
use Rattle.text.specs.Numbers.{spelled, spelled_in}
use Rattle.recipe.specs.Rules.{sizes_right, operands_right, judged_by, judged}
use Rattle.sheet.specs.Lines.{keyword_from, row_line_at, root_line_at, line_at}
use Rattle.sheet.specs.Reading.{step_of, read_lines, read_sheet}
use Rattle.answer.specs.Answer.{refused_line, answer_to}

wrong_line_lem : answer_to ours (ascii "R\tskip\t0\t0\nR\tskip\t0\t00\n") ≡ ascii "refused\t12\t1\n"
unfolding answer_to refused_line spelled spelled_in read_sheet read_lines step_of line_at row_line_at text_at keyword_from number_at digits_at digits_after is_digit
wrong_line_lem = refl

no_lines : answer_to ours (ascii "") ≡ ascii "refused\t1\t0\n"
unfolding answer_to refused_line spelled spelled_in read_sheet read_lines step_of line_at judged judged_by sizes_right lowest
no_lines = refl

no_such_row : answer_to ours (ascii "R\tskip\t0\t0\nP\t0\nP\t7\n") ≡ ascii "refused\t5\t1\n"
unfolding
    answer_to refused_line spelled spelled_in read_sheet read_lines step_of line_at row_line_at root_line_at text_at keyword_from number_at digits_at digits_after is_digit
    judged judged_by sizes_right operands_right lowest
no_such_row = refl
