-- A set of procedures as a word: its bits say which procedures a statement calls, and, closed, which a procedure reaches.
-- Assumes nothing.
use mathlib.Core.Path.{◌≡◌, refl, sym, ap, ap₂, ◌∙◌, subst}
use mathlib.Core.Bool.{Bool, true, false, not, ◌&&◌, ◌||◌, and_self, true≢false, cond}
use mathlib.Core.List.{List, [], ◌∷◌}
use Prim.Native.Nat.{ℕ, zero, suc, ◌+◌, ◌*◌, ◌≤◌, ◌<◌, min, max}
use native.Mathlib.Nat.{le_refl, zero-mul, one-mul}
use native.Mathlib.Numerals.{add-one}
use native.Mathlib.Omega.{arith}
use lib.Bits.{bit_and, bit_or}
use lib.Dec.{eqb}
use lib.ListN.{length, get_or}
use borrow.Author.Tests.{ne_eqb}
use Rattle.numbers.proofs.EveryLaws.{every_alike, every_next, every_passes}
use Rattle.calculus.specs.Syntax.{Stmt, skip, step, seq, loop, async, finish, call, Program, body}
use Rattle.labels.specs.Words.{bit}
use Rattle.labels.proofs.BitLaws.{bit_lt, bit_of_zero, bit_of_or, bit_of_and, bit_times, bit_of_power}
use Rattle.labels.proofs.ChangedLaws.{length_changed, changed_below}
use Rattle.labels.proofs.OneWord.{member_one}
use Rattle.labels.specs.Sets.{member}
use Rattle.numbers.specs.General.{one_if, every}
use Rattle.numbers.specs.Sizes.{ours, label_ceiling}
use Rattle.calls.specs.Inner.{calls_of, direct_calls, through_also, closed_below, none_in_both}
use Rattle.calls.specs.Reached.{calling, reached, wide}

max_or : (a b : Bool) → max (one_if a) (one_if b) ≡ one_if (a || b)
max_or true true = refl
max_or true false = refl
max_or false true = refl
max_or false false = refl

min_and : (a b : Bool) → min (one_if a) (one_if b) ≡ one_if (a && b)
min_and true true = refl
min_and true false = refl
min_and false true = refl
min_and false false = refl

none_is_not : (b : Bool) → eqb (one_if b) 0 ≡ not b
none_is_not true = refl
none_is_not false = refl

-- A test that fails somewhere below n does not pass everywhere.
pub fails_every : (test : ℕ → Bool) (n k : ℕ) → k < n → test k ≡ false → every n test ≡ false
fails_every test n k h e = go (every n test) refl
  where
    go : (b : Bool) → every n test ≡ b → b ≡ false
    go false f = refl
    go true f = absurd (true≢false (sym (every_passes test n f k h) ∙ e))

-- One place more at which it passes.
pub every_more : (test : ℕ → Bool) (n : ℕ) → every n test ≡ true → test n ≡ true → every (n + 1) test ≡ true
every_more test n e f = ap (λ (k : ℕ). every k test) (add-one n) ∙ every_next test n ∙ ap₂ ◌&&◌ e f

-- Whether a procedure is in no set, as a test of its bit.
pub unset : (x l : ℕ) → l < label_ceiling ours.words → eqb (bit x l) 0 ≡ not (eqb (member (x ∷ []) l) 1)
unset x l h = go (bit x l) (bit_lt x l) ∙ ap (λ (b : ℕ). not (eqb b 1)) (sym (member_one x l h))
  where
    go : (b : ℕ) → b < 2 → eqb b 0 ≡ not (eqb b 1)
    go zero h = refl
    go (suc zero) h = refl
    go (suc (suc b)) h = absurd (omega arith)

-- What is joined to a set that k is in.
pub joined_if : (x l via : ℕ) → l < label_ceiling ours.words → cond (eqb (member (x ∷ []) l) 1) via 0 ≡ bit x l * via
joined_if x l via h = ap (λ (b : ℕ). cond (eqb b 1) via 0) (member_one x l h) ∙ go (bit x l) (bit_lt x l)
  where
    go : (b : ℕ) → b < 2 → cond (eqb b 1) via 0 ≡ b * via
    go zero h = sym (zero-mul via)
    go (suc zero) h = sym (one-mul via)
    go (suc (suc b)) h = absurd (omega arith)

-- one procedure more
pub closed_more : (n k : ℕ) (sets : List ℕ) → through_also n k (closed_below n k sets) ≡ closed_below n (k + 1) sets
unfolding closed_below
closed_more n k sets = sym (ap (λ (m : ℕ). closed_below n m sets) (add-one k))

pub closed_none : (n : ℕ) (sets : List ℕ) → sets ≡ closed_below n 0 sets
unfolding closed_below
closed_none n sets = refl

-- The bits of a statement's calls say which procedures it calls.
pub calls_bit : (s : Stmt) (g : ℕ) → bit (calls_of s) g ≡ one_if (calling s g)
unfolding calls_of calling
calls_bit skip g = bit_of_zero g
calls_bit (step l) g = bit_of_zero g
calls_bit (seq s t) g =
    bit_of_or (calls_of s) (calls_of t) g ∙ ap₂ max (calls_bit s g) (calls_bit t g) ∙ max_or (calling s g) (calling t g)
calls_bit (loop s) g = calls_bit s g
calls_bit (async s) g = calls_bit s g
calls_bit (finish s) g = calls_bit s g
calls_bit (call f) g = bit_of_power f g

module _ (p : Program) (n : ℕ) (sets : List ℕ) (room : n ≤ length sets) where
  -- The sets after k procedures of the closure.
  abbrev closed : ℕ → List ℕ
  closed k = closed_below n k (direct_calls n p sets)

  closed_size : (k : ℕ) → length (closed k) ≡ length sets
  unfolding closed_below
  closed_size zero = length_changed n (λ f set. calls_of (body p f)) sets
  closed_size (suc k) = length_changed n (λ f set. bit_or set (bit set k * get_or (closed k) k 0)) (closed k) ∙ closed_size k

  -- Their bits say who is reached with only procedures below k between.
  pub closed_bit : (k : ℕ) → k ≤ n → (f : ℕ) → f < n → (g : ℕ) → bit (get_or (closed k) f 0) g ≡ one_if (reached p k f g)
  unfolding closed_below reached
  closed_bit zero h f l g =
      ap (λ (set : ℕ). bit set g) (changed_below n (λ f set. calls_of (body p f)) sets f l (omega arith)) ∙ calls_bit (body p f) g
  closed_bit (suc k) h f l g =
      ap (λ (set : ℕ). bit set g) (changed_below n (λ f set. bit_or set (bit set k * get_or (closed k) k 0)) (closed k) f l (omega (arith, closed_size k)))
      ∙ bit_of_or (get_or (closed k) f 0) (bit (get_or (closed k) f 0) k * get_or (closed k) k 0) g
      ∙ ap₂ max (closed_bit k (omega arith) f l g)
      (bit_times (bit (get_or (closed k) f 0) k) (get_or (closed k) k 0) g (bit_lt (get_or (closed k) f 0) k)
      ∙ ap₂ min (closed_bit k (omega arith) f l k) (closed_bit k (omega arith) k h g)
      ∙ min_and (reached p k f k) (reached p k k g))
      ∙ max_or (reached p k f g) (reached p k f k && reached p k k g)

  -- The closed sets tell whether a procedure that main reaches reaches itself; main does if it is in its own set.
  pub sets_wide : n ≡ length p → not (none_in_both n (closed n)) ≡ wide p
  sets_wide size =
      ap not
      (subst (λ (m : ℕ). none_in_both n (closed n) ≡ every m (λ f. not ((eqb f 0 || reached p m 0 f) && reached p m f f))) size
      (every_alike n _ _ own))
    where
      main_too : (f : ℕ) → not (reached p n 0 f && reached p n f f) ≡ not ((eqb f 0 || reached p n 0 f) && reached p n f f)
      main_too zero = ap not (and_self (reached p n 0 0))
      main_too (suc f) = rw (ne_eqb (suc f) 0 (λ e. omega arith)) refl

      own :
          (f : ℕ) → f < n
          → eqb (bit (bit_and (get_or (closed n) 0 0) (get_or (closed n) f 0)) f) 0 ≡ not ((eqb f 0 || reached p n 0 f) && reached p n f f)
      own f l =
          ap (λ (x : ℕ). eqb x 0)
          (bit_of_and (get_or (closed n) 0 0) (get_or (closed n) f 0) f
          ∙ ap₂ min (closed_bit n (le_refl n) 0 (omega arith) f) (closed_bit n (le_refl n) f l f)
          ∙ min_and (reached p n 0 f) (reached p n f f))
          ∙ none_is_not (reached p n 0 f && reached p n f f)
          ∙ main_too f
