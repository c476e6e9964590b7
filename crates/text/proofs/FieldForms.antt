-- A field is read exactly where it is spelled: a text by its bytes, a number by its digits, from the left.
-- Assumes nothing.
use mathlib.Core.Path.{◌≡◌, refl, sym, ap, ap₂, ◌∙◌}
use mathlib.Core.Bool.{Bool, true, false, false≢true}
use mathlib.Core.List.{List, [], ◌∷◌, ◌++◌, append_assoc, append-nil}
use mathlib.Core.Logic.{◌⊎◌, inl, inr}
use Prim.Native.Nat.{ℕ, zero, suc, ◌+◌, ◌-◌, ◌*◌, ◌/◌, ◌%◌, ◌^◌, ◌≤◌, ◌<◌}
use native.Mathlib.Nat.{le_trans, mul-le-mul_left, pow-suc}
use native.Mathlib.Decide.{ℕ_discrete, dec_lt}
use native.Mathlib.Omega.{arith}
use Rattle.text.specs.Bytes.{digit, is_digit}
use Rattle.text.specs.Numbers.{spelled}
use Rattle.text.proofs.DigitLaws.{digit_bounds, digit_is}
use Rattle.text.proofs.SpelledLaws.{spelled_alone, spelled_last, spelled_onto}
use Rattle.text.specs.Fields.{holds, broken, text_at, digits_at, digits_after, number_at}
use Rattle.text.proofs.FieldLoops.{tens, digit_bounded, first_digit_short}
use Rattle.text.proofs.FieldLaws.{text_same, text_other, digits_stop, digits_over, digits_other, digits_next, digits_none}
use Rattle.text.proofs.FieldLaws.{number_first, number_other, none_after_zero, three_after_another}

pub broken_holds_nothing : {n : ℕ} {t : List ℕ} → broken ≡ holds n t → ⊥
broken_holds_nothing e = let z : ◌≡◌ {A = ℕ} 0 1 = cc in omega arith

-- A text that was found stands at the front.
pub text_read : (text : List ℕ) (n : ℕ) (s : List ℕ) {m : ℕ} {t : List ℕ} → text_at text n s ≡ holds m t → (n ≡ m) × (s ≡ text ++ t)
unfolding text_at
text_read [] n s e = (cc, cc)
text_read (b ∷ text) n [] e = absurd (broken_holds_nothing e)
text_read (a ∷ text) n (b ∷ s) {m} {t} e = by_byte (ℕ_discrete b a) (λ h. text_read text n s (sym (text_same a b text s n h) ∙ e))
  where
    by_byte : Dec (b ≡ a) → (b ≡ a → (n ≡ m) × (s ≡ text ++ t)) → (n ≡ m) × (b ∷ s ≡ a ∷ (text ++ t))
    by_byte (yes h) rest = ((rest h).0, ap₂ ◌∷◌ h (rest h).1)
    by_byte (no h) rest = absurd (broken_holds_nothing (sym (text_other a b text s n h) ∙ e))

-- A text at the front is found.
pub text_reads : (text : List ℕ) (n : ℕ) (t : List ℕ) → text_at text n (text ++ t) ≡ holds n t
unfolding text_at
text_reads [] n t = refl
text_reads (b ∷ text) n t = text_same b b text (text ++ t) n refl ∙ text_reads text n t

-- Digits that were read behind those of n: they stand at the front before `stop`, and spell the rest of the number.
pub record DigitsHere (stop more n : ℕ) (s : List ℕ) (m : ℕ) (t : List ℕ) : Type 0 where
  pub digits : List ℕ
  pub bytes : s ≡ digits ++ (stop ∷ t)
  pub spells : spelled m ≡ spelled n ++ digits
  pub bounded : m + 1 ≤ (n + 1) * 10 ^ more

same_byte : (b : ℕ) → digit 0 ≤ b → digit (b - digit 0) ≡ b
same_byte b h = omega arith

module _ (stop : ℕ) where
  stopped :
      (more b : ℕ) (s : List ℕ) {n m : ℕ} {t : List ℕ} → b ≡ stop → holds n s ≡ holds m t → DigitsHere stop more n (b ∷ s) m t
  stopped more b s {n} {m} {t} h e =
      let same : n ≡ m = cc in
      record {
        digits = [];
        bytes = ap₂ ◌∷◌ h (cc);
        spells = ap spelled (sym same) ∙ sym (append-nil (spelled n));
        bounded = omega (arith, mul-le-mul_left (n + 1) (tens more));
      }

  pub digits_read :
      (s : List ℕ) (more n : ℕ) {m : ℕ} {t : List ℕ} → (1 ≤ n) ⊎ (more ≡ 0) → digits_at stop more n s ≡ holds m t
      → DigitsHere stop more n s m t
  digits_read [] more n l e = absurd (broken_holds_nothing (sym (digits_none stop more n) ∙ e))
  digits_read (b ∷ s) zero n {m} {t} l e = by_byte (ℕ_discrete b stop)
    where
      by_byte : Dec (b ≡ stop) → DigitsHere stop 0 n (b ∷ s) m t
      by_byte (yes h) = stopped 0 b s h (sym (digits_stop stop 0 n b s h) ∙ e)
      by_byte (no h) = absurd (broken_holds_nothing (sym (digits_over stop n b s h) ∙ e))
  digits_read (b ∷ s) (suc more) n {m} {t} l e =
      by_byte (ℕ_discrete b stop) (is_digit b) refl
      (λ h d. digits_read s more (10 * n + (b - digit 0)) (inl (leading l)) (sym (digits_next stop more n b s h d) ∙ e))
    where
      leading : (1 ≤ n) ⊎ (suc more ≡ 0) → 1 ≤ 10 * n + (b - digit 0)
      leading (inl h) = omega arith
      leading (inr h) = absurd (omega arith)

      first : (1 ≤ n) ⊎ (suc more ≡ 0) → 1 ≤ n
      first (inl h) = h
      first (inr h) = absurd (omega arith)

      onto :
          is_digit b ≡ true → DigitsHere stop more (10 * n + (b - digit 0)) s m t → DigitsHere stop (suc more) n (b ∷ s) m t
      onto d p =
          let low : digit 0 ≤ b = (digit_bounds b d).0 in
          let high : b ≤ digit 9 = (digit_bounds b d).1 in
          record {
            digits = b ∷ p.digits;
            bytes = ap (◌∷◌ b) p.bytes;
            spells =
                p.spells
                ∙ ap (λ (u : List ℕ). u ++ p.digits)
                (spelled_onto n (b - digit 0) (first l) (omega arith) ∙ ap (λ (a : ℕ). spelled n ++ (a ∷ [])) (same_byte b low))
                ∙ append_assoc (spelled n) (b ∷ []) p.digits;
            bounded = le_trans p.bounded (digit_bounded n (b - digit 0) more (omega arith));
          }

      by_byte :
          Dec (b ≡ stop) → (x : Bool) → is_digit b ≡ x
          → ((b ≡ stop → ⊥) → is_digit b ≡ true → DigitsHere stop more (10 * n + (b - digit 0)) s m t) → DigitsHere stop (suc more) n (b ∷ s) m t
      by_byte (yes h) x d rest = stopped (suc more) b s h (sym (digits_stop stop (suc more) n b s h) ∙ e)
      by_byte (no h) true d rest = onto d (rest h d)
      by_byte (no h) false d rest = absurd (broken_holds_nothing (sym (digits_other stop (suc more) n b s h d) ∙ e))

  -- A number that was read stands at the front as it is spelled, before `stop`, and is below ten thousand.
  pub number_read :
      (s : List ℕ) {m : ℕ} {t : List ℕ} → number_at stop s ≡ holds m t → (s ≡ spelled m ++ (stop ∷ t)) × (m < 10000)
  unfolding number_at
  number_read [] e = absurd (broken_holds_nothing e)
  number_read (b ∷ s) {m} {t} e = by_digit (is_digit b) refl
    where
      begins : is_digit b ≡ true → DigitsHere stop (digits_after b) (b - digit 0) s m t → (b ∷ s ≡ spelled m ++ (stop ∷ t)) × (m < 10000)
      begins d p =
          let low : digit 0 ≤ b = (digit_bounds b d).0 in
          let high : b ≤ digit 9 = (digit_bounds b d).1 in
          let alone : spelled (b - digit 0) ≡ b ∷ [] = spelled_alone (b - digit 0) (omega arith) ∙ ap (λ (a : ℕ). a ∷ []) (same_byte b low) in (
            ap (◌∷◌ b) p.bytes ∙ sym (ap (λ (u : List ℕ). u ++ (stop ∷ t)) (p.spells ∙ ap (λ (u : List ℕ). u ++ p.digits) alone)),
            le_trans (omega (arith, p.bounded)) (first_digit_short b (digits_after b) d refl),
          )

      by_zero : is_digit b ≡ true → Dec (b ≡ digit 0) → (1 ≤ b - digit 0) ⊎ (digits_after b ≡ 0)
      by_zero d (yes z) = inr (none_after_zero b z)
      by_zero d (no z) = inl (omega (arith, digit_bounds b d))

      by_digit : (x : Bool) → is_digit b ≡ x → (b ∷ s ≡ spelled m ++ (stop ∷ t)) × (m < 10000)
      by_digit true d =
          begins d (digits_read s (digits_after b) (b - digit 0) (by_zero d (ℕ_discrete b (digit 0))) (sym (number_first stop b s d) ∙ e))
      by_digit false d = absurd (broken_holds_nothing (sym (number_other stop b s d) ∙ e))

-- Digits that are spelled are read: a number of at most four digits, before a byte that is no digit.
module _ (stop : ℕ) (plain : is_digit stop ≡ false) where
  -- Reading the digits of n leads to n, with so many digits more allowed.
  Leads : ℕ → ℕ → Type 0
  Leads more n = (t : List ℕ) → number_at stop (spelled n ++ t) ≡ digits_at stop more n t

  no_stop : (d : ℕ) → d ≤ 9 → digit d ≡ stop → ⊥
  no_stop d h e = false≢true (sym plain ∙ ap is_digit (sym e) ∙ digit_is d h)

  first_leads : (n : ℕ) → 1 ≤ n → n < 10 → Leads 3 n
  unfolding Leads
  first_leads n h l t =
      ap (λ (s : List ℕ). number_at stop (s ++ t)) (spelled_alone n l)
      ∙ number_first stop (digit n) t (digit_is n (omega arith))
      ∙ ap₂ (λ (k m : ℕ). digits_at stop k m t) (three_after_another (digit n) (λ e. omega arith)) value
    where
      value : digit n - digit 0 ≡ n
      value = omega arith

  next_leads : (n more : ℕ) → 10 ≤ n → Leads (suc more) (n / 10) → Leads more n
  unfolding Leads
  next_leads n more h rest t =
      ap (number_at stop)
      (ap (λ (s : List ℕ). s ++ t) (spelled_last n h) ∙ append_assoc (spelled (n / 10)) (digit (n % 10) ∷ []) t)
      ∙ rest (digit (n % 10) ∷ t)
      ∙ digits_next stop more (n / 10) (digit (n % 10)) t (no_stop (n % 10) (omega arith)) (digit_is (n % 10) (omega arith))
      ∙ ap (λ (m : ℕ). digits_at stop more m t) value
    where
      value : 10 * (n / 10) + (digit (n % 10) - digit 0) ≡ n
      value = omega arith

  -- A number of at most k + 1 digits leaves at least 3 - k.
  leads : (k n : ℕ) → k ≤ 3 → 1 ≤ n → n < 10 ^ suc k → (more : ℕ) × (3 ≤ k + more) × Leads more n
  leads zero n b h l = (3, omega arith, first_leads n h l)
  leads (suc k) n b h l =
      by_size (dec_lt n 10) (λ g. leads k (n / 10) (omega arith) (omega arith) (omega (arith, pow-suc 10 (suc k), l)))
    where
      one_less : 10 ≤ n → (more : ℕ) → 3 ≤ k + more → Leads more (n / 10) → (more : ℕ) × (3 ≤ suc k + more) × Leads more n
      one_less g zero e p = absurd (omega arith)
      one_less g (suc more) e p = (more, omega arith, next_leads n more g p)

      by_size :
          Dec (n < 10) → (10 ≤ n → (more : ℕ) × (3 ≤ k + more) × Leads more (n / 10))
          → (more : ℕ) × (3 ≤ suc k + more) × Leads more n
      by_size (yes g) rest = (3, omega arith, first_leads n h g)
      by_size (no g) rest = let r = rest (omega arith) in one_less (omega arith) r.0 r.1 r.2

  pub number_reads : (n : ℕ) (t : List ℕ) → n ≤ 9999 → number_at stop (spelled n ++ (stop ∷ t)) ≡ holds n t
  unfolding Leads
  number_reads zero t h =
      ap (λ (s : List ℕ). number_at stop (s ++ (stop ∷ t))) (spelled_alone 0 (omega arith))
      ∙ number_first stop (digit 0) (stop ∷ t) (digit_is 0 (omega arith))
      ∙ digits_stop stop (digits_after (digit 0)) 0 stop t refl
  number_reads (suc n) t h =
      let r = leads 3 (suc n) (omega arith) (omega arith) (omega arith) in
      r.2 (stop ∷ t) ∙ digits_stop stop r.0 (suc n) stop t refl
