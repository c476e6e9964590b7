-- A token and the field that was read are the same thing told by places and by bytes: the bytes behind a field say at which place they begin.
-- Assumes nothing.
use mathlib.Core.Path.{◌≡◌, refl, sym, ap, ◌∙◌}
use mathlib.Core.List.{List, [], ◌∷◌, ◌++◌}
use mathlib.Core.Logic.{◌⊎◌, inl, inr}
use Prim.Native.Nat.{ℕ, ◌+◌, ◌-◌, ◌≤◌, ◌<◌}
use native.Mathlib.Omega.{arith}
use lib.ListN.{length, drop, drop_of_length-le, length-append, length-drop}
use lib.Seq.{take_all, append_snoc, drop-drop, drop-append_seam}
use Rattle.text.specs.Numbers.{spelled}
use Rattle.text.specs.Fields.{Field, holds, broken, text_at, digits_at, digits_after, number_at}
use Rattle.text.specs.Inner.{placed, token_at, field_of, Ahead}
use mathlib.Core.Bool.{true, false}
use denote.Ref.{Bor}
use Rattle.std.specs.List.{slice_range}
use Rattle.std.specs.Slice.{IsGetRangeResult}
use Rattle.std.specs.Option.{unwrap_or}
use Rattle.std.specs.Prelude.{Option, Some, None}
use Rattle.text.proofs.FieldForms.{text_read, text_reads, number_read}
use Rattle.text.proofs.FieldLaws.{number_first, number_other}
use Rattle.text.specs.Bytes.{digit, is_digit}

-- The bytes from a place on, as a range of them and as they are asked for.
pub range_from : (bytes : List ℕ) (at : ℕ) → slice_range bytes at (length bytes) ≡ drop at bytes
range_from bytes at = take_all (length bytes - at) (drop at bytes) (omega (arith, length-drop at bytes))

pub got_from :
    (bytes : List ℕ) (at : ℕ) (r : Option (Bor (List ℕ))) (none : Bor (List ℕ)) {here : Bor (List ℕ)} → IsGetRangeResult bytes at (length bytes) r → none.now ≡ []
    → here ≡ unwrap_or r none → here.now ≡ drop at bytes
got_from bytes at (Some x) none got e f = ap (λ (b : Bor (List ℕ)). b.now) f ∙ got.0.2 ∙ range_from bytes at
got_from bytes at None none got e f =
    ap (λ (b : Bor (List ℕ)). b.now) f ∙ e ∙ sym (drop_of_length-le bytes (by_side got.0))
  where
    by_side : (length bytes < at) ⊎ (length bytes < length bytes) → length bytes ≤ at
    by_side (inl h) = omega arith
    by_side (inr h) = omega arith

-- A text is found exactly where it stands at the front of the bytes from the place on.
module _ (bytes text : List ℕ) (at n : ℕ) where
  pub text_stands : (rest : List ℕ) → drop at bytes ≡ text ++ rest → Some (n, at + length text) ≡ token_at (text_at text n) bytes at
  unfolding token_at
  text_stands rest e =
      rw (e, text_reads text n rest)
      (ap (λ (k : ℕ). Some (n, at + k)) (omega (arith, length-append text rest)))

  pub text_differs : ((rest : List ℕ) → drop at bytes ≡ text ++ rest → ⊥) → None ≡ token_at (text_at text n) bytes at
  unfolding token_at
  text_differs h = by_field (text_at text n (drop at bytes)) refl
    where
      by_field : (f : Field) → text_at text n (drop at bytes) ≡ f → None ≡ placed at (drop at bytes) f
      by_field (holds m rest) e = absurd (h rest (text_read text n (drop at bytes) e).1)
      by_field broken e = refl

-- What was found some bytes further on.
abbrev pub behind : ℕ → Option (ℕ × ℕ) → Option (ℕ × ℕ)
behind at (Some (n, k)) = Some (n, at + k)
behind at None = None

-- A number is found where its first byte is a digit and its other digits are found behind that.
module _ (stop at : ℕ) (bytes : List ℕ) where
  pub no_number : length bytes ≤ at → None ≡ token_at (number_at stop) bytes at
  unfolding token_at number_at
  no_number l = rw (drop_of_length-le bytes l)

  module _ {got : List ℕ} (b : ℕ) (rest : List ℕ) (range : got ≡ slice_range bytes at (length bytes)) (begins : got ≡ b ∷ rest) where
    here : drop at bytes ≡ b ∷ rest
    here = sym (range_from bytes at) ∙ sym range ∙ begins

    pub no_number_here : is_digit b ≡ false → None ≡ token_at (number_at stop) bytes at
    unfolding token_at
    no_number_here d = rw (here, number_other stop b rest d)

    pub number_here :
        is_digit b ≡ true → {more first : ℕ} → more ≡ digits_after b → first ≡ b - digit 0 → (r : Option (ℕ × ℕ))
        → field_of rest r ≡ digits_at stop more first rest → Ahead rest 0 r → behind (at + 1) r ≡ token_at (number_at stop) bytes at
    unfolding token_at
    number_here d m f r e w = rw (here, number_first stop b rest d, ← m, ← f, ← e) (by_token r w)
      where
        by_token : (r : Option (ℕ × ℕ)) → Ahead rest 0 r → behind (at + 1) r ≡ placed at (b ∷ rest) (field_of rest r)
        by_token (Some (n, k)) (from, within) = ap (λ (j : ℕ). Some (n, j)) (omega (arith, length-drop k rest))
        by_token None w = refl

-- The field of what was found: what was read and the rest make the bytes from the place on.
field_behind :
    (bytes : List ℕ) (at n : ℕ) (text rest : List ℕ) → drop at bytes ≡ text ++ rest
    → field_of bytes (placed at (drop at bytes) (holds n rest)) ≡ holds n rest
field_behind bytes at n text rest e =
    ap (holds n)
    (ap (λ (k : ℕ). drop (at + k) bytes) size
    ∙ sym (drop-drop (length text) at bytes)
    ∙ ap (drop (length text)) e
    ∙ drop-append_seam text rest)
  where
    size : length (drop at bytes) - length rest ≡ length text
    size = omega (arith, ap length e, length-append text rest)

module _ (bytes : List ℕ) (at : ℕ) where
  pub text_field : (text : List ℕ) (n : ℕ) {r : Option (ℕ × ℕ)} → r ≡ token_at (text_at text n) bytes at → field_of bytes r ≡ text_at text n (drop at bytes)
  unfolding token_at
  text_field text n e = ap (field_of bytes) e ∙ by_field (text_at text n (drop at bytes)) refl
    where
      by_field : (f : Field) → text_at text n (drop at bytes) ≡ f → field_of bytes (placed at (drop at bytes) f) ≡ f
      by_field (holds m rest) h = field_behind bytes at m text rest (text_read text n (drop at bytes) h).1
      by_field broken h = refl

  pub number_field : (stop : ℕ) {r : Option (ℕ × ℕ)} → r ≡ token_at (number_at stop) bytes at → field_of bytes r ≡ number_at stop (drop at bytes)
  unfolding token_at
  number_field stop e = ap (field_of bytes) e ∙ by_field (number_at stop (drop at bytes)) refl
    where
      by_field : (f : Field) → number_at stop (drop at bytes) ≡ f → field_of bytes (placed at (drop at bytes) f) ≡ f
      by_field (holds m rest) h =
          field_behind bytes at m (spelled m ++ (stop ∷ [])) rest
          ((number_read stop (drop at bytes) h).0 ∙ sym (append_snoc (spelled m) stop rest))
      by_field broken h = refl
