-- A kind is read exactly where its keyword stands before a tab: the keywords are tried in the order of the kinds, and no two begin alike.
-- Assumes nothing.
use mathlib.Core.Path.{◌≡◌, refl, sym, ap, ◌∙◌}
use mathlib.Core.List.{List, [], ◌∷◌, ◌++◌}
use Prim.Native.Nat.{ℕ, zero, suc, ◌+◌, ◌≤◌, ◌<◌}
use native.Mathlib.Omega.{arith}
use lib.ListN.{length, get_or, drop, drop_of_length-le}
use lib.Seq.{drop-cons}
use borrow.Author.Tests.{ne_eqb}
use Rattle.std.specs.Prelude.{Option, Some, None, MatchOption}
use Rattle.text.specs.Bytes.{tab}
use Rattle.text.specs.Fields.{Field, holds, broken, text_at}
use Rattle.text.specs.Inner.{token_at, field_of}
use Rattle.text.proofs.FieldForms.{broken_holds_nothing, text_read}
use Rattle.text.proofs.TokenLaws.{text_field}
use Rattle.sheet.specs.Form.{keywords, keyword}
use Rattle.sheet.specs.Lines.{or_else, keyword_from, keyword_at}

-- A kind that was found is one of the keywords, before a tab.
record KeywordHere (k : ℕ) (ws : List (List ℕ)) (s : List ℕ) (n : ℕ) (t : List ℕ) : Type 0 where
  place : ℕ
  counted : n ≡ k + place
  among : place < length ws
  bytes : s ≡ (get_or ws place [] ++ (tab ∷ [])) ++ t

keyword_here : (k : ℕ) (ws : List (List ℕ)) (s : List ℕ) {n : ℕ} {t : List ℕ} → keyword_from k ws s ≡ holds n t → KeywordHere k ws s n t
unfolding keyword_from
keyword_here k [] s e = absurd (broken_holds_nothing e)
keyword_here k (w ∷ ws) s {n} {t} e = by_first (text_at (w ++ (tab ∷ [])) k s) refl e (λ r. keyword_here (k + 1) ws s r)
  where
    by_first :
        (f : Field) → text_at (w ++ (tab ∷ [])) k s ≡ f → or_else f (keyword_from (k + 1) ws s) ≡ holds n t
        → (keyword_from (k + 1) ws s ≡ holds n t → KeywordHere (k + 1) ws s n t) → KeywordHere k (w ∷ ws) s n t
    by_first (holds m u) h r rest =
        let p = text_read (w ++ (tab ∷ [])) k s (h ∙ r) in
        record { place = 0; counted = omega (arith, p.0); among = omega arith; bytes = p.1 }
    by_first broken h r rest =
        let p = rest r in
        record { place = suc p.place; counted = omega (arith, p.counted); among = omega (arith, p.among); bytes = p.bytes }

-- So there are no kinds but those of the keywords.
pub kind_small : (s : List ℕ) {n : ℕ} {t : List ℕ} → holds n t ≡ keyword_at s → n ≤ 6
kind_small s e = let p = keyword_here 0 keywords s (sym e) in omega (arith, p.counted, p.among)

pub keyword_read : (s : List ℕ) {k : ℕ} {t : List ℕ} → holds k t ≡ keyword_at s → s ≡ (keyword k ++ (tab ∷ [])) ++ t
keyword_read s {k} {t} e =
    let p = keyword_here 0 keywords s (sym e) in
    let same : p.place ≡ k = omega (arith, p.counted) in
    p.bytes ∙ ap (λ (i : ℕ). (keyword i ++ (tab ∷ [])) ++ t) same

-- A kind's keyword before a tab is found.
pub keyword_reads : (k : ℕ) (t : List ℕ) → k ≤ 6 → keyword_at ((keyword k ++ (tab ∷ [])) ++ t) ≡ holds k t
unfolding keyword_from text_at
keyword_reads zero t h = refl
keyword_reads (suc zero) t h = refl
keyword_reads (suc (suc zero)) t h = refl
keyword_reads (suc (suc (suc zero))) t h = refl
keyword_reads (suc (suc (suc (suc zero)))) t h = refl
keyword_reads (suc (suc (suc (suc (suc zero))))) t h = refl
keyword_reads (suc (suc (suc (suc (suc (suc zero)))))) t h = refl
keyword_reads (suc (suc (suc (suc (suc (suc (suc k))))))) t h = absurd (omega arith)

-- The token, or where there is none the field of a text at the same place.
pub or_text :
    (bytes : List ℕ) (at : ℕ) (text : List ℕ) (n : ℕ) (r r' : Option (ℕ × ℕ)) (P : Type 0) → MatchOption r P (λ x. r' ≡ Some x)
    → (P → r' ≡ token_at (text_at text n) bytes at) → field_of bytes r' ≡ or_else (field_of bytes r) (text_at text n (drop at bytes))
or_text bytes at text n None r' P e tried = text_field bytes at text n (tried e)
or_text bytes at text n (Some (m, next)) r' P e tried = rw e

or_else_assoc : (f g h : Field) → or_else (or_else f g) h ≡ or_else f (or_else g h)
or_else_assoc (holds n s) g h = refl
or_else_assoc broken g h = refl

or_else_broken : (f : Field) → or_else f broken ≡ f
or_else_broken (holds n s) = refl
or_else_broken broken = refl

-- A kind's keyword before a tab, tried alone.
abbrev pub kind_here : ℕ → List ℕ → Field
kind_here k s = text_at (keyword k ++ (tab ∷ [])) k s

-- The three keywords that begin with s.
abbrev pub kinds_with_s : List ℕ → Field
kinds_with_s s = or_else (or_else (kind_here 0 s) (kind_here 1 s)) (kind_here 2 s)

-- The first byte tells which keywords may stand there.
module _ (t : List ℕ) where
  pub with_s : keyword_at (115 ∷ t) ≡ kinds_with_s (115 ∷ t)
  unfolding keyword_from text_at
  with_s = simp (or_else_assoc, or_else_broken)

  pub with_l : keyword_at (108 ∷ t) ≡ kind_here 3 (108 ∷ t)
  unfolding keyword_from text_at
  with_l = simp or_else_broken

  pub with_a : keyword_at (97 ∷ t) ≡ kind_here 4 (97 ∷ t)
  unfolding keyword_from text_at
  with_a = simp or_else_broken

  pub with_f : keyword_at (102 ∷ t) ≡ kind_here 5 (102 ∷ t)
  unfolding keyword_from text_at
  with_f = simp or_else_broken

  pub with_c : keyword_at (99 ∷ t) ≡ kind_here 6 (99 ∷ t)
  unfolding keyword_from text_at
  with_c = simp or_else_broken

  pub with_another :
      (b : ℕ) → (b ≡ 115 → ⊥) → (b ≡ 108 → ⊥) → (b ≡ 97 → ⊥) → (b ≡ 102 → ⊥) → (b ≡ 99 → ⊥) → keyword_at (b ∷ t) ≡ broken
  unfolding keyword_from text_at
  with_another b s l a f c = rw (ne_eqb b 115 s, ne_eqb b 108 l, ne_eqb b 97 a, ne_eqb b 102 f, ne_eqb b 99 c)

module _ (bytes : List ℕ) (at : ℕ) where
  pub no_keyword_behind : length bytes ≤ at → broken ≡ keyword_at (drop at bytes)
  unfolding keyword_from text_at
  no_keyword_behind l = rw (drop_of_length-le bytes l)

  module _ {b : ℕ} (l : at < length bytes) (e : b ≡ get_or bytes at 0) where
    pub by_first :
        (c : ℕ) (tried : List ℕ → Field) {f : Field} → ((t : List ℕ) → keyword_at (c ∷ t) ≡ tried (c ∷ t)) → b ≡ c
        → f ≡ tried (drop at bytes) → f ≡ keyword_at (drop at bytes)
    by_first c tried w h g =
        let here : drop at bytes ≡ c ∷ drop (suc at) bytes = rw (drop-cons bytes at 0 l, ← e, h) in
        g ∙ (rw here (sym (w (drop (suc at) bytes))))

    pub no_first :
        (b ≡ 115 → ⊥) → (b ≡ 108 → ⊥) → (b ≡ 97 → ⊥) → (b ≡ 102 → ⊥) → (b ≡ 99 → ⊥) → broken ≡ keyword_at (drop at bytes)
    no_first s l' a f c =
        let here : drop at bytes ≡ b ∷ drop (suc at) bytes = rw (drop-cons bytes at 0 l, ← e) in
        rw here (sym (with_another (drop (suc at) bytes) b s l' a f c))
