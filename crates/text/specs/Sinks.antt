-- What a sink has taken, and the laws of it: nothing leaves a sink as it is, and what is taken in two parts is taken at once.
use mathlib.Core.Path.{◌≡◌, refl, sym, ap, ◌∙◌}
use mathlib.Core.List.{List, [], ◌∷◌, ◌++◌}
use Prim.Native.Nat.{ℕ, suc, ◌+◌, ◌-◌, ◌%◌, ◌^◌, ◌≤◌, ◌<◌}
use native.Mathlib.Nat.{add-zero, add-suc, suc-add}
use native.Mathlib.Decide.{dec_le}
use native.Mathlib.Omega.{arith}
use lib.ListN.{length, set, length-append}
use lib.Seq.{sets, length-sets, set_out}
use Rattle.text.specs.Inner.{Put}

-- ---- bytes that are counted

-- A text was counted: the count is higher by its bytes, and begins again at 0 where it leaves the machine numbers.
pub record Counts (old : ℕ) (text : List ℕ) (new : ℕ) : Type 0 where
  pub more : old < 2 ^ 64 → new ≡ (old + length text) % 2 ^ 64

pub counts_nothing : (n : ℕ) → Counts n [] n
counts_nothing n = record { more = λ h. omega arith }

pub counts_joined : (k l m : ℕ) (a b : List ℕ) → Counts k a l → Counts l b m → Counts k (a ++ b) m
counts_joined k l m a b p q = record { more = λ h. let one = p.more h in omega (arith, one, q.more (omega (arith, one)), length-append a b) }

-- ---- texts that are put: a store changes one byte, and behind the last byte it changes none

sets_append : (l : List ℕ) (i : ℕ) (s t : List ℕ) → sets l i (s ++ t) ≡ sets (sets l i s) (i + length s) t
sets_append l i [] t = ap (λ (k : ℕ). sets l k t) (sym (add-zero i))
sets_append l i (a ∷ s) t =
    sets_append (set l i a) (suc i) s t
    ∙ ap (λ (k : ℕ). sets (sets (set l i a) (suc i) s) k t) (suc-add i (length s) ∙ sym (add-suc i (length s)))

-- Behind the last byte nothing is stored.
sets_beyond : (l : List ℕ) (i : ℕ) (s : List ℕ) → length l ≤ i → sets l i s ≡ l
sets_beyond l i [] h = refl
sets_beyond l i (a ∷ s) h = ap (λ (x : List ℕ). sets x (suc i) s) (set_out l i a h) ∙ sets_beyond l (suc i) s (omega arith)

pub put_nothing : (b : List ℕ) (at : ℕ) → Put b at [] b at
put_nothing b at = record { bytes = refl; place = omega arith }

pub put_keeps : {a s b : List ℕ} {at next : ℕ} → Put a at s b next → length b ≡ length a
put_keeps {a} {s} {b} {at} p = ap length p.bytes ∙ length-sets a at s

-- Putting one text and then another is putting their join.
pub put_behind : {a s b t c : List ℕ} {at next end : ℕ} → Put a at s b next → Put b next t c end → Put a at (s ++ t) c end
put_behind {a} {s} {b} {t} {c} {at} {next} {end} p q =
    record {
      bytes = q.bytes ∙ by_room (dec_le (length s) (length a - at)) ∙ ap (λ (x : List ℕ). sets x (at + length s) t) p.bytes ∙ sym (sets_append a at s t);
      place = omega (arith, p.place, q.place, put_keeps p, length-append s t);
    }
  where
    by_room : Dec (length s ≤ length a - at) → sets b next t ≡ sets b (at + length s) t
    by_room (yes h) = let same : next ≡ at + length s = omega (arith, p.place) in ap (λ (k : ℕ). sets b k t) same
    by_room (no h) =
        sets_beyond b next t (omega (arith, p.place, put_keeps p)) ∙ sym (sets_beyond b (at + length s) t (omega (arith, put_keeps p)))
