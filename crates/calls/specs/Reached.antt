-- Which procedures reach which by calls, as a computation.
use Rattle.std.specs.Prelude.{Bool, false, not, ◌&&◌, ◌||◌, ℕ, zero, suc, eqb, length}
use Rattle.calculus.specs.Syntax.{Stmt, skip, step, seq, loop, async, finish, call, Program, body}
use Rattle.numbers.specs.General.{every}

-- Whether a call of g stands in the statement.
unfoldable pub calling : Stmt → ℕ → Bool
calling skip g = false
calling (step l) g = false
calling (seq s t) g = calling s g || calling t g
calling (loop s) g = calling s g
calling (async s) g = calling s g
calling (finish s) g = calling s g
calling (call f) g = eqb f g

-- Whether f reaches g by one or more calls, with only procedures below k between them.
unfoldable pub reached : Program → ℕ → ℕ → ℕ → Bool
reached p zero f g = calling (body p f) g
reached p (suc k) f g = reached p k f g || (reached p k f k && reached p k k g)

-- Whether f can reach itself by calls.
abbrev pub reaches_itself : Program → ℕ → Bool
reaches_itself p f = reached p (length p) f f

-- Whether f is main, or main can reach f by calls.
abbrev pub from_main : Program → ℕ → Bool
from_main p f = eqb f 0 || reached p (length p) 0 f

-- Whether some procedure that main can reach by calls, main included, can reach itself by calls.
abbrev pub wide : Program → Bool
wide p = not (every (length p) (λ f. not (from_main p f && reaches_itself p f)))
