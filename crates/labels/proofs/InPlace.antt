-- A loop that changes the first words of a lent slice one by one: after i turns the slice is `changed` at i, and at the end at all the words that it holds.
-- Assumes nothing.
use mathlib.Core.Path.{◌≡◌, refl, sym, ap, ap₂, ◌∙◌}
use mathlib.Core.List.{List, ◌++◌}
use Prim.Native.Nat.{ℕ, ◌+◌, ◌≤◌, ◌<◌, min}
use native.Mathlib.Numerals.{add-one}
use native.Mathlib.Nat.{le_refl}
use native.Mathlib.Omega.{arith}
use lib.ListN.{length, get_or, set, take, drop, length-set}
use Rattle.std.proofs.lemmas.List.{length-take-le}
use Rattle.labels.specs.Words.{changed}
use Rattle.labels.proofs.ChangedLaws.{changed_beyond, changed_step, changed_short, changed_front}

pub record Changing (most : ℕ) (f : ℕ → ℕ → ℕ) (old : List ℕ) (n : ℕ) (new : List ℕ) (i : ℕ) : Type 0 where
  pub passed : i ≤ n
  pub held : n ≡ min most (length old)
  pub words : new ≡ changed i f old
  pub size : length new ≡ length old

module _ {most : ℕ} {f : ℕ → ℕ → ℕ} {old : List ℕ} {n : ℕ} where
  pub begins : n ≡ min most (length old) → Changing most f old n old 0
  unfolding changed
  begins e = record { passed = omega arith; held = e; words = refl; size = refl }

  pub goes_on_lem :
      {new : List ℕ} {i v : ℕ} → Changing most f old n new i → i < n → v ≡ f i (get_or new i 0) → Changing most f old n (set new i v) (i + 1)
  goes_on_lem {new} {i} {v} c h e =
      let unchanged : get_or new i 0 ≡ get_or old i 0 = ap (λ (s : List ℕ). get_or s i 0) c.words ∙ changed_beyond i f old i (le_refl i) in
      record {
        passed = omega arith;
        held = c.held;
        words =
            ap₂ (λ (s : List ℕ) (x : ℕ). set s i x) c.words (e ∙ ap (f i) unchanged)
            ∙ changed_step i f old (omega (arith, c.held))
            ∙ ap (λ (k : ℕ). changed k f old) (sym (add-one i));
        size = length-set new i v ∙ c.size;
      }

  pub ends : {new : List ℕ} {i : ℕ} → Changing most f old n new i → n ≤ i → new ≡ changed most f old
  ends {i = i} c h =
      c.words
      ∙ ap (λ (k : ℕ). changed k f old) (exact ∙ c.held)
      ∙ changed_short most f old
    where
      exact : i ≡ n
      exact = omega arith

-- A loop over the first n words of a lent slice changes those, and the others stay.
pub part_ends :
    {f : ℕ → ℕ → ℕ} {part : List ℕ} {i : ℕ} (n : ℕ) (s : List ℕ) → n ≤ length s → Changing (length (take n s)) f (take n s) (length (take n s)) part i
    → length (take n s) ≤ i → part ++ drop n s ≡ changed n f s
part_ends {f} n s h c l =
    ap (λ (t : List ℕ). t ++ drop n s) (ends c l ∙ ap (λ (k : ℕ). changed k f (take n s)) (length-take-le n s h)) ∙ changed_front n f s
