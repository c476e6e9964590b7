-- Only the contracts of inner functions speak of these: what the code's words hold, and where a round's state holds them.
use Rattle.std.specs.Prelude.{List, [], ◌∷◌, ℕ, ◌<◌, ◌≡◌, length, get_or}
use Rattle.numbers.specs.Sizes.{matrix_words, Size}
use Rattle.labels.specs.Words.{Words}
use Rattle.matrix.specs.Matrix.{merged}
use Rattle.calculus.specs.Syntax.{Program, body}
use Rattle.recipe.specs.Tables.{Table}
use Rattle.recipe.specs.Statements.{statement_at}
use Rattle.analysis.specs.Summaries.{WordSummary, words_of}
use Rattle.analysis.specs.declared.summary.LabelSummary.{LabelSummary}
use Rattle.analysis.specs.declared.summary.Summary.{Summary}

-- The summary that the code hands back, with the matrix that it was lent.
abbrev pub summary_words : LabelSummary → List ℕ → WordSummary
summary_words s m = record { M = m; O = s.o ∷ []; L = s.l ∷ [] }

-- The words of a stored summary.
abbrev pub words_in : Summary → WordSummary
words_in x = summary_words x.labels x.pairs

-- The summary with its pairs marked besides those of m.
abbrev pub marked_into : ℕ → List ℕ → WordSummary → WordSummary
marked_into w m x = record { M = merged w m x.M; O = x.O; L = x.L }

-- What is read past a state's end: no words.
abbrev pub no_summary : Summary
no_summary = record { pairs = []; labels = record { o = 0; l = 0 } }

-- The summary that a state holds for procedure f.
abbrev pub held_for : List Summary → ℕ → WordSummary
held_for s f = words_in (get_or s f no_summary)

-- The summary of a row's statement, from the summaries that a state holds.
abbrev pub row_words : ℕ → Table → List Summary → ℕ → WordSummary
row_words w t held row = words_of w (held_for held) (statement_at t row)

-- The summary of procedure f's body, from the summaries that a state holds.
abbrev pub body_words : ℕ → Program → List Summary → ℕ → WordSummary
body_words w p held f = words_of w (held_for held) (body p f)

-- n words.
pub record Sized (n : ℕ) (s : List ℕ) : Type 0 where
  pub size : length s ≡ n
  pub words : Words s

-- A summary of a whole matrix and w words a set.
pub record Shaped (w : ℕ) (x : WordSummary) : Type 0 where
  pub M : Sized (matrix_words w) x.M
  pub O : Sized w x.O
  pub L : Sized w x.L

-- Each procedure's summary is whole.
pub record Whole (z : Size) (held : List Summary) : Type 0 where
  pub of : (f : ℕ) → f < z.procs → Shaped z.words (held_for held f)
