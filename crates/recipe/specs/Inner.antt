-- What a rule that is kept says, and what the judge's counters hold. Only the contracts of inner functions speak of these.
use Rattle.std.specs.Prelude.{List, [], ◌∷◌, ◌≡◌, ℕ, ◌+◌, ◌≤◌, ◌<◌, min, length, get_or, Ok}
use Rattle.numbers.specs.Sizes.{Size, ours, row_ceiling}
use Rattle.recipe.specs.Rules.{Rule, judged_by, uses_by}
use Rattle.recipe.specs.Tables.{Table, kind_of, rows, procs, kind_at, x_at, y_at}

-- The table passes the rule.
abbrev pub Kept : Rule → Type 0
Kept r = Ok tt ≡ judged_by (r ∷ [])

-- Right sizes: from one to the ceiling of rows and of procedures, and both operands to each row.
pub record RightSizes (z : Size) (rows xs ys procs : ℕ) : Type 0 where
  pub some_rows : 1 ≤ rows
  pub few_rows_lem : rows ≤ row_ceiling
  pub some_procs : 1 ≤ procs
  pub few_procs_lem : procs ≤ z.procs
  pub xs_match : xs ≡ rows
  pub ys_match : ys ≡ rows

-- The table's sizes are right.
abbrev pub Sized : Table → Type 0
Sized t = RightSizes ours (rows t) (length t.xs) (length t.ys) (procs t)

-- There is a counter for each row number, and it holds how often the number was met, where two stands for two and more.
abbrev pub Counts : List ℕ → (ℕ → ℕ) → Type 0
Counts counts met = (length counts ≡ row_ceiling) × ((i : ℕ) → i < row_ceiling → get_or counts i 0 ≡ min 2 (met i))

-- The counters have counted so many uses more of each row.
abbrev pub Counted : List ℕ → List ℕ → (ℕ → ℕ) → Type 0
Counted before after more = (met : ℕ → ℕ) → Counts before met → Counts after (λ i. met i + more i)

-- Each child of a row lies below a bound.
abbrev pub ChildrenBelow : ℕ → Table → Type 0
ChildrenBelow bound t = (j i : ℕ) → j < rows t → 0 < uses_by (kind_of (kind_at t j)) (x_at t j) (y_at t j) i → i < bound
