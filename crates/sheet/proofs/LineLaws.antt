-- How a line is read field by field: each case of the definitions once, by what its fields were found to be.
-- Assumes nothing.
use mathlib.Core.Path.{◌≡◌, refl, sym}
use mathlib.Core.List.{List, [], ◌∷◌}
use Prim.Native.Nat.{ℕ, ◌≤◌, ◌<◌}
use lib.ListN.{length, drop, drop_of_length-le}
use lib.Seq.{drop-cons}
use Rattle.std.proofs.lemmas.Bool.Decides.{nat_tests}
use Rattle.text.specs.Bytes.{tab, newline}
use Rattle.text.specs.Fields.{holds, broken, text_at, number_at}
use Rattle.text.specs.Inner.{token_at, field_of}
use Rattle.text.proofs.TokenLaws.{text_field, number_field}
use Rattle.sheet.specs.Lines.{row_mark, root_mark, keyword_at, no_line, row_line, root_line, wrong_line, row_line_at, root_line_at, line_at, by_mark}

module _ (s : List ℕ) where
  pub no_keyword : broken ≡ keyword_at s → wrong_line ≡ row_line_at s
  unfolding row_line_at
  no_keyword e = rw (← e)

  pub no_root : broken ≡ number_at newline s → wrong_line ≡ root_line_at s
  unfolding root_line_at
  no_root e = rw (← e)

  pub root_read : (root : ℕ) (t : List ℕ) → holds root t ≡ number_at newline s → root_line root t ≡ root_line_at s
  unfolding root_line_at
  root_read root t e = rw (← e)

  module _ (k : ℕ) (s₁ : List ℕ) (e : holds k s₁ ≡ keyword_at s) where
    pub no_x : broken ≡ number_at tab s₁ → wrong_line ≡ row_line_at s
    unfolding row_line_at
    no_x e₁ = rw (← e, ← e₁)

    module _ (x : ℕ) (s₂ : List ℕ) (e₁ : holds x s₂ ≡ number_at tab s₁) where
      pub no_y : broken ≡ number_at newline s₂ → wrong_line ≡ row_line_at s
      unfolding row_line_at
      no_y e₂ = rw (← e, ← e₁, ← e₂)

      pub row_read :
          (y : ℕ) (t : List ℕ) → holds y t ≡ number_at newline s₂ → row_line (record { kind = k; x = x; y = y }) t ≡ row_line_at s
      unfolding row_line_at
      row_read y t e₂ = rw (← e, ← e₁, ← e₂)

-- A line by its mark.
module _ (b : ℕ) (s : List ℕ) {n : ℕ} {t : List ℕ} where
  pub row_marked : holds n t ≡ text_at row_mark 0 (b ∷ s) → row_line_at t ≡ line_at (b ∷ s)
  unfolding line_at
  row_marked e = rw (← e, line_at)

  pub root_marked : broken ≡ text_at row_mark 0 (b ∷ s) → holds n t ≡ text_at root_mark 0 (b ∷ s) → root_line_at t ≡ line_at (b ∷ s)
  unfolding line_at
  root_marked e f = rw (← e, ← f, line_at)

pub unmarked : (b : ℕ) (s : List ℕ) → broken ≡ text_at row_mark 0 (b ∷ s) → broken ≡ text_at root_mark 0 (b ∷ s) → wrong_line ≡ line_at (b ∷ s)
unfolding line_at
unmarked b s e f = rw (← e, ← f, line_at)

pub no_bytes : line_at [] ≡ no_line
unfolding line_at
no_bytes = refl

-- The same at a place of the bytes.
module _ (bytes : List ℕ) (at : ℕ) where
  pub sheet_ends : length bytes ≤ at → no_line ≡ line_at (drop at bytes)
  unfolding line_at
  sheet_ends l = rw (drop_of_length-le bytes l)

  pub by_its_mark : at < length bytes → line_at (drop at bytes) ≡ by_mark (text_at row_mark 0 (drop at bytes)) (text_at root_mark 0 (drop at bytes))
  unfolding line_at
  by_its_mark l = rw (drop-cons bytes at 0 l)

-- A field at a place of the bytes, by what is found of it there.
pub number_is : (stop : ℕ) (bytes : List ℕ) (at : ℕ) → number_at stop (drop at bytes) ≡ field_of bytes (token_at (number_at stop) bytes at)
number_is stop bytes at = sym (number_field bytes at stop refl)

pub text_is : (text : List ℕ) (n : ℕ) (bytes : List ℕ) (at : ℕ) → text_at text n (drop at bytes) ≡ field_of bytes (token_at (text_at text n) bytes at)
text_is text n bytes at = sym (text_field bytes at text n refl)

-- What reading a line's fields comes to, and what is done with a line, follows by these.
pub ruleset by_fields = (number_is, text_is)

pub ruleset by_line = (by_its_mark, sheet_ends, nat_tests)
