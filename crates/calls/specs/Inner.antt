-- Sets of procedures as the code keeps them, one word each, procedure f at bit f. Only the contracts of inner functions speak of these.
use Rattle.std.specs.Prelude.{Bool, List, ℕ, zero, suc, ◌*◌, ◌^◌, eqb, get_or}
use Rattle.std.specs.Int.Bits.{bit_and, bit_or}
use Rattle.calculus.specs.Syntax.{Stmt, skip, step, seq, loop, async, finish, call, Program, body}
use Rattle.labels.specs.Words.{bit, changed}
use Rattle.numbers.specs.General.{every}

-- The procedures that a statement calls.
unfoldable pub calls_of : Stmt → ℕ
calls_of skip = 0
calls_of (step l) = 0
calls_of (seq s t) = bit_or (calls_of s) (calls_of t)
calls_of (loop s) = calls_of s
calls_of (async s) = calls_of s
calls_of (finish s) = calls_of s
calls_of (call f) = 2 ^ f

-- Sets of which the first n, for each procedure f, become the procedures that the body of f calls.
abbrev pub direct_calls : ℕ → Program → List ℕ → List ℕ
direct_calls n p sets = changed n (λ f set. calls_of (body p f)) sets

-- The first n sets, reaching through k besides: who reaches k reaches all that k reaches.
abbrev pub through_also : ℕ → ℕ → List ℕ → List ℕ
through_also n k sets = changed n (λ f set. bit_or set (bit set k * get_or sets k 0)) sets

-- The first n sets, reaching through each procedure below k, one after the other.
unfoldable pub closed_below : ℕ → ℕ → List ℕ → List ℕ
closed_below n zero sets = sets
closed_below n (suc k) sets = through_also n k (closed_below n k sets)

-- Whether none of the first n procedures is both in the set of main and in its own.
abbrev pub none_in_both : ℕ → List ℕ → Bool
none_in_both n sets = every n (λ f. eqb (bit (bit_and (get_or sets 0 0) (get_or sets f 0)) f) 0)
