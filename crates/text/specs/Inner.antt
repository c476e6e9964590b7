-- Only the contracts of functions below the entries speak of these: where a field was found, and what putting a text leaves.
use Rattle.std.specs.Prelude.{Option, Some, None, List, ◌≡◌, ℕ, ◌+◌, ◌-◌, ◌≤◌, min, max, length, drop}
use Rattle.std.proofs.lemmas.List.Edits.{sets}
use Rattle.text.specs.Fields.{Field, holds, broken}

-- A field at the front of these bytes, which stand at this place: its number and the place behind it.
abbrev pub placed : ℕ → List ℕ → Field → Option (ℕ × ℕ)
placed at s (holds n rest) = Some (n, at + (length s - length rest))
placed at s broken = None

-- What is found by reading a field at this place of the bytes.
unfoldable pub token_at : (List ℕ → Field) → List ℕ → ℕ → Option (ℕ × ℕ)
token_at read bytes at = placed at (drop at bytes) (read (drop at bytes))

-- The text stands from the place on, as much of it as there is room for, no other byte has changed, and the next place is the
-- one behind what was put.
pub record Put (old : List ℕ) (at : ℕ) (text new : List ℕ) (next : ℕ) : Type 0 where
  pub bytes : new ≡ sets old at text
  pub place : next ≡ at + min (length text) (length old - at)

-- A token as the field that it stands for: the place behind it as the bytes from there on.
abbrev pub field_of : List ℕ → Option (ℕ × ℕ) → Field
field_of bytes (Some (n, next)) = holds n (drop next bytes)
field_of bytes None = broken

-- The place behind a token lies ahead of this place, and within the bytes if this place does.
abbrev pub Ahead : List ℕ → ℕ → Option (ℕ × ℕ) → Type 0
Ahead bytes at (Some (n, next)) = (at ≤ next) × (next ≤ max at (length bytes))
Ahead bytes at None = Unit
