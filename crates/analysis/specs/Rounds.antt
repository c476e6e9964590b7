-- The rounds: from empty summaries, every body is worked out again from the round before, until a round repeats.
use Rattle.std.specs.Prelude.{Bool, ◌&&◌, ℕ, zero, suc, length}
use Rattle.numbers.specs.General.{every}
use Rattle.numbers.specs.Sizes.{matrix_words}
use Rattle.labels.specs.Words.{alike}
use Rattle.calculus.specs.Syntax.{Program, body}
use Rattle.analysis.specs.Summaries.{WordSummary, empty_words, words_of}

-- The summary of procedure f after k rounds. Every body is worked out, called or not.
unfoldable pub after : ℕ → Program → ℕ → ℕ → WordSummary
after w p zero f = empty_words w
after w p (suc k) f = words_of w (after w p k) (body p f)

-- Whether two summaries are the same, word by word.
abbrev pub same_words : ℕ → WordSummary → WordSummary → Bool
same_words w x y = alike (matrix_words w) x.M y.M && alike w x.O y.O && alike w x.L y.L

-- Whether round k + 1 equals round k, M included.
abbrev pub settled : ℕ → Program → ℕ → Bool
settled w p k = every (length p) (λ f. same_words w (after w p (suc k) f) (after w p k f))
