-- Texts put one behind the other are their join, put at once, with room for them or without: a store changes one byte, and
-- behind the last byte it changes none. Assumes nothing.
use mathlib.Core.Path.{◌≡◌, ap, ◌∙◌}
use mathlib.Core.List.{List, [], ◌∷◌, ◌++◌}
use Prim.Native.Nat.{ℕ, ◌+◌, ◌≤◌, ◌<◌}
use native.Mathlib.Nat.{zero-add}
use native.Mathlib.Numerals.{add-one}
use native.Mathlib.Omega.{arith}
use lib.ListN.{length, get_or, take, drop}
use lib.Seq.{sets-eq, take-suc}
use Rattle.text.specs.Inner.{Put}
pub use Rattle.text.specs.Sinks.{put_behind}

-- A text for which there is room at the front: it stands there, what lies beyond it stays, and the next place is behind it.
module _ {a t b : List ℕ} {next : ℕ} (room : length t ≤ length a) (p : Put a 0 t b next) where
  pub put_front : b ≡ t ++ drop (length t) a
  put_front = p.bytes ∙ sets-eq t a 0 (omega arith) ∙ ap (λ (k : ℕ). t ++ drop k a) (zero-add (length t))

  pub put_length : next ≡ length t
  put_length = omega (arith, p.place)

-- ---- a loop that puts a text byte by byte

pub record Copying (text old : List ℕ) (at : ℕ) (new : List ℕ) (next k : ℕ) : Type 0 where
  pub passed : k ≤ length text
  pub put : Put old at (take k text) new next

module _ {text old : List ℕ} {at : ℕ} where
  pub copy_goes_on :
      {new new' : List ℕ} {next next' k : ℕ} → Copying text old at new next k → k < length text → Put new next (get_or text k 0 ∷ []) new' next'
      → Copying text old at new' next' (k + 1)
  copy_goes_on {k = k} c h p =
      record { passed = omega arith; put = rw (add-one k, take-suc text k 0 h) (put_behind c.put p) }
