-- An opening line says one count, one number of rounds and one verdict: no digit is a tab, so a number in a line ends at the first tab behind it, and the
-- two verdicts begin with different letters. Assumes nothing.
use mathlib.Core.Path.{◌≡◌, refl, sym, ap, ap₂, ◌∙◌}
use mathlib.Core.Bool.{Bool, true, false, false≢true}
use mathlib.Core.List.{List, [], ◌∷◌, ◌++◌, Memᴰ, append_assoc}
use Prim.Native.Nat.{ℕ}
use native.Mathlib.Omega.{arith}
use lib.ListN.{length, get_or, drop}
use Rattle.numbers.specs.General.{laid}
use Rattle.numbers.specs.Sizes.{Size}
use Rattle.matrix.specs.Matrix.{pairs_at_or_above}
use Rattle.text.specs.Bytes.{ascii, tab, newline, is_digit}
use Rattle.text.specs.Numbers.{spelled}
use Rattle.text.proofs.DigitLaws.{tab_no_digit}
use Rattle.text.proofs.SpelledLaws.{spelled_digits, spelled_injective}
use Rattle.calculus.specs.Syntax.{Program}
use Rattle.calls.specs.Reached.{wide}
use Rattle.analysis.specs.Replies.{rounds, main_pairs}
use Rattle.listing.specs.Listing.{verdict_text, opening, lines, listing}
use Rattle.listing.specs.Pairs.{pairs}
use Rattle.listing.specs.Replies.{listing_of}

-- ---- a number and the tab behind it

-- Every byte is a digit.
abbrev Digits : List ℕ → Type 0
Digits a = (b : ℕ) → Memᴰ b a → is_digit b ≡ true

tab_among_digits : {b : ℕ} {a : List ℕ} → Digits (b ∷ a) → b ≡ tab → ⊥
tab_among_digits digits e = false≢true (sym tab_no_digit ∙ ap is_digit (sym e) ∙ digits _ (Memᴰ.head refl))

digits_before_tab : (a b x y : List ℕ) → Digits a → Digits b → a ++ (tab ∷ x) ≡ b ++ (tab ∷ y) → (a ≡ b) × (x ≡ y)
digits_before_tab [] [] x y f g e = (refl, cc)
digits_before_tab [] (d ∷ b) x y f g e = absurd (tab_among_digits g (cc))
digits_before_tab (c ∷ a) [] x y f g e = absurd (tab_among_digits f (cc))
digits_before_tab (c ∷ a) (d ∷ b) x y f g e =
    let rest = digits_before_tab a b x y (λ n h. f n (Memᴰ.tail h)) (λ n h. g n (Memᴰ.tail h)) (ap (drop 1) e) in
    let first : c ≡ d = cc in
    (ap₂ ◌∷◌ first rest.0, rest.1)

number_ends : (m n : ℕ) (x y : List ℕ) → spelled m ++ (tab ∷ x) ≡ spelled n ++ (tab ∷ y) → (m ≡ n) × (x ≡ y)
number_ends m n x y e =
    let same = digits_before_tab (spelled m) (spelled n) x y (spelled_digits m) (spelled_digits n) e in
    (spelled_injective m n same.0, same.1)

-- ---- the opening line

-- The first byte.
abbrev first_of : List ℕ → ℕ
first_of text = get_or text 0 0

verdict_said : (v w : Bool) (x y : List ℕ) → verdict_text v ++ (newline ∷ x) ≡ verdict_text w ++ (newline ∷ y) → (v ≡ w) × (x ≡ y)
verdict_said true true x y e = (refl, ap (drop 5) e)
verdict_said false false x y e = (refl, ap (drop 6) e)
verdict_said true false x y e = absurd (omega (arith, ap first_of e))
verdict_said false true x y e = absurd (omega (arith, ap first_of e))

-- What follows the rounds of an opening line, and what follows the count.
abbrev after_rounds : Bool → List ℕ → List ℕ
after_rounds wide rest = verdict_text wide ++ (newline ∷ rest)

abbrev after_count : ℕ → Bool → List ℕ → List ℕ
after_count rounds wide rest = ascii "rounds" ++ (tab ∷ (spelled rounds ++ (tab ∷ after_rounds wide rest)))

opening_onto :
    (count rounds : ℕ) (wide : Bool) (rest : List ℕ)
    → opening count rounds wide ++ rest ≡ ascii "pairs" ++ (tab ∷ (spelled count ++ (tab ∷ after_count rounds wide rest)))
unfolding opening
opening_onto count rounds wide rest = simp append_assoc

-- Two texts that begin with an opening line are the same only if the lines say the same and the same follows them.
pub opening_said :
    (count count' rounds rounds' : ℕ) (wide wide' : Bool) (x y : List ℕ) → opening count rounds wide ++ x ≡ opening count' rounds' wide' ++ y
    → (count ≡ count') × (rounds ≡ rounds') × (wide ≡ wide') × (x ≡ y)
opening_said count count' rounds rounds' wide wide' x y e =
    let first =
    number_ends count count' (after_count rounds wide x) (after_count rounds' wide' y)
    (ap (drop 6) (sym (opening_onto count rounds wide x) ∙ e ∙ opening_onto count' rounds' wide' y)) in
    let second = number_ends rounds rounds' (after_rounds wide x) (after_rounds wide' y) (ap (drop 7) first.1) in
    let third = verdict_said wide wide' x y second.1 in
    (first.0, second.0, third.0, third.1)

-- ---- the listing

-- Whatever verdict the opening line of a listing says, where the listing was laid in front, is the listing's.
pub listing_says :
    (w : ℕ) (m : List ℕ) (rounds : ℕ) (wide : Bool) (b : List ℕ) (count' rounds' : ℕ) (wide' : Bool) (rest : List ℕ)
    → laid (listing w m rounds wide) b ≡ opening count' rounds' wide' ++ rest → wide ≡ wide'
unfolding listing
listing_says w m rounds wide b count' rounds' wide' rest e =
    (opening_said (pairs_at_or_above w m) count' rounds rounds' wide wide' (lines (pairs w m) ++ drop (length (listing w m rounds wide)) b) rest
    (sym (append_assoc (opening (pairs_at_or_above w m) rounds wide) (lines (pairs w m)) (drop (length (listing w m rounds wide)) b)) ∙ e)).2

module _ (z : Size) (p : Program) (b : List ℕ) where
  pub program_says : (count' rounds' : ℕ) (wide' : Bool) (rest : List ℕ) → laid (listing_of z p) b ≡ opening count' rounds' wide' ++ rest → wide p ≡ wide'
  unfolding listing_of
  program_says = listing_says z.words (main_pairs z.words p) (rounds z.words p) (wide p) b

  -- It does begin with an opening line, its own.
  pub program_opens :
      (rest : List ℕ)
      × (laid (listing_of z p) b ≡ opening (pairs_at_or_above z.words (main_pairs z.words p)) (rounds z.words p) (wide p) ++ rest)
  unfolding listing_of listing
  program_opens =
      let m = main_pairs z.words p in
      let behind = drop (length (listing_of z p)) b in
      (lines (pairs z.words m) ++ behind, append_assoc (opening (pairs_at_or_above z.words m) (rounds z.words p) (wide p)) (lines (pairs z.words m)) behind)
