-- The statements that the rows of a table stand for, and which rows make up a procedure's body.
use Rattle.std.specs.Prelude.{ℕ, zero, suc, ◌+◌, ◌<◌, map}
use Rattle.calculus.specs.Syntax.{Stmt, Program}
use Rattle.recipe.specs.Tables.{Table, Kind, kind_of, kind_at, x_at, y_at}
use Rattle.recipe.specs.Rules.{uses_by}

-- The statement of a row of this kind with the operands x and y, where `at` gives the statement of each child row.
unfoldable pub row_statement : Kind → ℕ → ℕ → (ℕ → Stmt) → Stmt
row_statement Kind.skip x y at = Stmt.skip
row_statement Kind.step x y at = Stmt.step x
row_statement Kind.seq x y at = Stmt.seq (at x) (at y)
row_statement Kind.loop x y at = Stmt.loop (at x)
row_statement Kind.async x y at = Stmt.async (at x)
row_statement Kind.finish x y at = Stmt.finish (at x)
row_statement Kind.call x y at = Stmt.call x
row_statement Kind.unknown x y at = Stmt.skip

-- The statement of row i, read to the given depth.
unfoldable pub statement_to : ℕ → Table → ℕ → Stmt
statement_to zero t i = Stmt.skip
statement_to (suc depth) t i = row_statement (kind_of (kind_at t i)) (x_at t i) (y_at t i) (statement_to depth t)

-- The statement that row i stands for. Children have smaller numbers, so no row lies deeper than its number.
unfoldable pub statement_at : Table → ℕ → Stmt
statement_at t i = statement_to (i + 1) t i

-- The bodies of the procedures, in order.
abbrev pub program_of : Table → Program
program_of t = map (statement_at t) t.roots

-- Row i is a child of row j.
abbrev pub Child : Table → ℕ → ℕ → Type 0
Child t j i = 0 < uses_by (kind_of (kind_at t j)) (x_at t j) (y_at t j) i

-- The rows within row r: r itself, and each child of a row within r.
pub data Within (t : Table) (r : ℕ) : ℕ → Type 0 where
  here : Within t r r
  below : {j i : ℕ} → Within t r j → Child t j i → Within t r i
