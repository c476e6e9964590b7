-- The rules (10) to (16) on words: a statement's sets are w words each, its pairs a matrix.
use Rattle.std.specs.Prelude.{List, ℕ}
use Rattle.numbers.specs.Sizes.{matrix_words}
use Rattle.labels.specs.Sets.{none, single, union}
use Rattle.matrix.specs.Matrix.{merged, crossed}
use Rattle.calculus.specs.Syntax.{Stmt, skip, step, seq, loop, async, finish, call}

-- The pairs that may run together, the labels that may still run when the statement has completed, and the labels that run.
pub record WordSummary : Type 0 where
  pub M : List ℕ
  pub O : List ℕ
  pub L : List ℕ

-- Skip (15), and every procedure before the first round: all three are empty.
abbrev pub empty_words : ℕ → WordSummary
empty_words w = record { M = none (matrix_words w); O = none w; L = none w }

-- A step (14): its label runs.
abbrev pub step_words : ℕ → ℕ → WordSummary
step_words w l = record { M = none (matrix_words w); O = none w; L = single w l }

-- One after the other (10): unions, and what the first leaves running meets what the second runs.
abbrev pub followed_words : ℕ → WordSummary → WordSummary → WordSummary
followed_words w x y =
    record {
      M = crossed w x.O y.L (merged w x.M y.M);
      O = union w x.O y.O;
      L = union w x.L y.L;
    }

-- A loop (11): what a turn leaves running meets what a turn runs.
abbrev pub looped_words : ℕ → WordSummary → WordSummary
looped_words w x = record { M = crossed w x.O x.L x.M; O = x.O; L = x.L }

-- A side branch (12): all that it runs may still run afterwards.
abbrev pub spawned_words : WordSummary → WordSummary
spawned_words x = record { M = x.M; O = x.L; L = x.L }

-- A wait (13): nothing is left running.
abbrev pub waited_words : ℕ → WordSummary → WordSummary
waited_words w x = record { M = x.M; O = none w; L = x.L }

-- The summary of a statement, where B has one for each procedure; a call has that of its procedure (16).
abbrev pub words_of : ℕ → (ℕ → WordSummary) → Stmt → WordSummary
words_of w B skip = empty_words w
words_of w B (step l) = step_words w l
words_of w B (seq s t) = followed_words w (words_of w B s) (words_of w B t)
words_of w B (loop s) = looped_words w (words_of w B s)
words_of w B (async s) = spawned_words (words_of w B s)
words_of w B (finish s) = waited_words w (words_of w B s)
words_of w B (call f) = B f
