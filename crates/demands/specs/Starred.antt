-- The small recipes of document 01 that are marked with a star: main first, the pairs named once, the rounds and the verdict.
use Rattle.std.specs.Prelude.{Bool, true, false, ◌&&◌, not, List, [], ◌∷◌, ℕ, ◌+◌, ◌*◌, ◌^◌, eqb, get_or}
use Rattle.numbers.specs.General.{one_if, every}
use Rattle.numbers.specs.Sizes.{ours, matrix_words}
use Rattle.matrix.specs.Matrix.{Pair}
use Rattle.calculus.specs.Syntax.{Program, skip, step, seq, loop, async, finish, call}
use Rattle.recipe.specs.Tables.{Table, table_of}
use Rattle.calls.specs.Reached.{wide}
use Rattle.analysis.specs.Replies.{rounds, main_pairs}

-- A recipe with what is said of it.
pub data Recipe : Type 0 where
  says : Program → List Pair → ℕ → Bool → Recipe

-- The program of a recipe.
abbrev pub said_of : Recipe → Program
said_of (says p pairs count is_wide) = p

-- What a named pair adds to word i: each label takes the other's bit into its own word, and a label beside itself its own bit once.
abbrev pub added_by : Pair → ℕ → ℕ
added_by pair i = one_if (eqb pair.0 i) * 2 ^ pair.1 + one_if (eqb pair.1 i && not (eqb pair.0 pair.1)) * 2 ^ pair.0

-- Word i of the matrix with these pairs marked and no others, each named once.
unfoldable pub word_of : List Pair → ℕ → ℕ
word_of [] i = 0
word_of (pair ∷ pairs) i = added_by pair i + word_of pairs i

-- Whether every word of a matrix is that of the named pairs.
abbrev pub marks_these : List Pair → List ℕ → Bool
marks_these pairs m = every (matrix_words ours.words) (λ i. eqb (get_or m i 0) (word_of pairs i))

-- Whether two truths are the same.
abbrev pub same_truth : Bool → Bool → Bool
same_truth true b = b
same_truth false b = not b

-- Whether the definitions give what is said: the whole matrix, the rounds and the verdict.
unfoldable pub says_true : Recipe → Bool
says_true (says p pairs count is_wide) =
    marks_these pairs (main_pairs ours.words p) && eqb (rounds ours.words p) count && same_truth (wide p) is_wide

-- Whether all of them do.
unfoldable pub all_true : List Recipe → Bool
all_true [] = true
all_true (r ∷ rs) = says_true r && all_true rs

-- The starred recipes, 1 to 8, 10 and 11.
abbrev pub starred : List Recipe
starred =
    says (skip ∷ []) [] 0 false
    ∷ says (step 5 ∷ []) [] 1 false
    ∷ says (seq (async (step 5)) (step 6) ∷ []) ((5, 6) ∷ []) 1 false
    ∷ says (seq (finish (async (step 5))) (step 6) ∷ []) [] 1 false
    ∷ says (loop (async (step 0)) ∷ []) ((0, 0) ∷ []) 1 false
    ∷ says (loop (step 0) ∷ []) [] 1 false
    ∷ says (seq (async (seq (step 0) (async (step 1)))) (step 2) ∷ []) ((0, 2) ∷ (1, 2) ∷ []) 1 false
    ∷ says (seq (call 1) (step 1) ∷ async (step 0) ∷ []) ((0, 1) ∷ []) 2 false
    ∷ says (seq (seq (call 0) (step 0)) (async (call 0)) ∷ []) ((0, 0) ∷ []) 3 true
    ∷ says (loop (seq (async (step 0)) (call 1)) ∷ call 1 ∷ []) ((0, 0) ∷ []) 1 true
    ∷ []

-- The same recipes as tables, in the same order.
abbrev pub starred_tables : List Table
starred_tables =
    table_of (0 ∷ []) (0 ∷ []) (0 ∷ []) (0 ∷ [])
    ∷ table_of (1 ∷ []) (5 ∷ []) (0 ∷ []) (0 ∷ [])
    ∷ table_of (1 ∷ 4 ∷ 1 ∷ 2 ∷ []) (5 ∷ 0 ∷ 6 ∷ 1 ∷ []) (0 ∷ 0 ∷ 0 ∷ 2 ∷ []) (3 ∷ [])
    ∷ table_of (1 ∷ 4 ∷ 5 ∷ 1 ∷ 2 ∷ []) (5 ∷ 0 ∷ 1 ∷ 6 ∷ 2 ∷ []) (0 ∷ 0 ∷ 0 ∷ 0 ∷ 3 ∷ []) (4 ∷ [])
    ∷ table_of (1 ∷ 4 ∷ 3 ∷ []) (0 ∷ 0 ∷ 1 ∷ []) (0 ∷ 0 ∷ 0 ∷ []) (2 ∷ [])
    ∷ table_of (1 ∷ 3 ∷ []) (0 ∷ 0 ∷ []) (0 ∷ 0 ∷ []) (1 ∷ [])
    ∷ table_of (1 ∷ 1 ∷ 4 ∷ 2 ∷ 4 ∷ 1 ∷ 2 ∷ []) (0 ∷ 1 ∷ 1 ∷ 0 ∷ 3 ∷ 2 ∷ 4 ∷ []) (0 ∷ 0 ∷ 0 ∷ 2 ∷ 0 ∷ 0 ∷ 5 ∷ []) (6 ∷ [])
    ∷ table_of (6 ∷ 1 ∷ 2 ∷ 1 ∷ 4 ∷ []) (1 ∷ 1 ∷ 0 ∷ 0 ∷ 3 ∷ []) (0 ∷ 0 ∷ 1 ∷ 0 ∷ 0 ∷ []) (2 ∷ 4 ∷ [])
    ∷ table_of (6 ∷ 1 ∷ 2 ∷ 6 ∷ 4 ∷ 2 ∷ []) (0 ∷ 0 ∷ 0 ∷ 0 ∷ 3 ∷ 2 ∷ []) (0 ∷ 0 ∷ 1 ∷ 0 ∷ 0 ∷ 4 ∷ []) (5 ∷ [])
    ∷ table_of (1 ∷ 4 ∷ 6 ∷ 2 ∷ 3 ∷ 6 ∷ []) (0 ∷ 0 ∷ 1 ∷ 1 ∷ 3 ∷ 1 ∷ []) (0 ∷ 0 ∷ 0 ∷ 2 ∷ 0 ∷ 0 ∷ []) (4 ∷ 5 ∷ [])
    ∷ []
