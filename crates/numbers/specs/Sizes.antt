-- How large recipes may be. What depends on the size of a recipe's sets takes the size; ours is named here, once.
use Rattle.std.specs.Prelude.{ℕ, ◌*◌}

-- A size: how many words a set of labels has, and how many procedures a table has at most.
pub record Size : Type 0 where
  pub words : ℕ
  pub procs : ℕ

-- Our size: a set of labels is one word, and a table has at most 64 procedures.
abbrev pub ours : Size
ours = record { words = 1; procs = 64 }

-- A word has 64 bits.
abbrev pub word_bits : ℕ
word_bits = 64

-- The labels that a set of w words can hold are those below this number.
abbrev pub label_ceiling : ℕ → ℕ
label_ceiling w = word_bits * w

-- The words of a matrix of label pairs: w for each label.
abbrev pub matrix_words : ℕ → ℕ
matrix_words w = label_ceiling w * w

-- A table has at most this many rows.
abbrev pub row_ceiling : ℕ
row_ceiling = 1024

-- A sheet has at most this many bytes.
abbrev pub sheet_ceiling : ℕ
sheet_ceiling = 65536
