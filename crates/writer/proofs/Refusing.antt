-- The writer refuses exactly as the list of refusals says, and leaves the lent bytes alone; what it replies else is the sheet's length,
-- and the sheet stands in front. All of it is the judge's reply, which tries one rule after the other. Assumes nothing.
use mathlib.Core.Bool.{true, ◌||◌}
use mathlib.Core.List.{List, [], ◌∷◌}
use mathlib.Core.Logic.{◌⊎◌, inl, inr}
use mathlib.Core.Path.{◌≡◌, refl, ap, subst}
use Prim.Native.Nat.{ℕ, ◌≤◌, ◌<◌}
use native.Mathlib.Omega.{arith}
use borrow.Author.Tests.{ltb-true, ltb-false, lt-ltb, le-ltb}
use lib.ListN.{length}
use Rattle.std.specs.Prelude.{Ok, Err, Result}
use Rattle.std.proofs.lemmas.Bool.{or_parts, or_cases}
use Rattle.numbers.specs.General.{laid, First, Nowhere}
use Rattle.numbers.specs.Sizes.{Size}
use Rattle.numbers.specs.declared.ProcNumber.{ProcNumber}
use Rattle.numbers.specs.declared.Refusal.{Refusal}
use Rattle.numbers.specs.declared.Refusal.TheVariants.{ShortBytes, LongOperand, LongRoot}
use Rattle.numbers.specs.declared.RowNumber.{RowNumber}
use Rattle.recipe.specs.Offences.{KeepsRules, Refuses}
use Rattle.recipe.specs.Rules.{Rule}
use Rattle.recipe.specs.Tables.{Table, rows, procs, x_at, y_at, root_at}
use Rattle.recipe.proofs.Offences.{refuses_of, of_refuses, keeps_of, of_keeps, refuses_by}
use Rattle.writer.specs.Replies.{written_as, held_as, written, bytes_written}
use Rattle.writer.specs.Rules.{too_long, table_rules, writer_rules, writable}
use Rattle.writer.specs.Sheets.{sheet_of}

-- ---- the rule that a refusal names

module _ {r : Rule} {more : List Rule} {why : Refusal} (refused : Refuses (r ∷ more) why) where
  -- A rule that refuses otherwise was kept.
  passed_rule : ((i : ℕ) → r.refusal i ≡ why → ⊥) → Nowhere r.places r.breaks × Refuses more why
  passed_rule other = go (refuses_by refused)
    where
      go :
          ((i : ℕ) × First r.places r.breaks i × (r.refusal i ≡ why)) ⊎ (Nowhere r.places r.breaks × Refuses more why)
          → Nowhere r.places r.breaks × Refuses more why
      go (inl (i, first, same)) = absurd (other i same)
      go (inr later) = later

  -- Where no later rule refuses so, this one did.
  broken_rule : (Refuses more why → ⊥) → (i : ℕ) × First r.places r.breaks i × (r.refusal i ≡ why)
  broken_rule none = go (refuses_by refused)
    where
      go :
          ((i : ℕ) × First r.places r.breaks i × (r.refusal i ≡ why)) ⊎ (Nowhere r.places r.breaks × Refuses more why)
          → (i : ℕ) × First r.places r.breaks i × (r.refusal i ≡ why)
      go (inl here) = here
      go (inr (kept, rest)) = absurd (none rest)

no_rule_refuses : {why : Refusal} → Refuses [] why → ⊥
no_rule_refuses r = elim r [ ]

-- ---- the judge's reply by the writer's

refused_as : (sheet : List ℕ) (j : Result Unit Refusal) (why : Refusal) → written_as sheet j ≡ Err why → j ≡ Err why
refused_as sheet (Ok done) why e = cc
refused_as sheet (Err other) why e = cc

length_as : (sheet : List ℕ) (j : Result Unit Refusal) (n : ℕ) → written_as sheet j ≡ Ok n → (j ≡ Ok tt) × (n ≡ length sheet)
length_as sheet (Ok done) n e = (refl, cc)
length_as sheet (Err why) n e = absurd cc

either_long : (a b : ℕ) → too_long a || too_long b ≡ true → (9999 < a) ⊎ (9999 < b)
either_long a b e = elim (or_cases (too_long a) (too_long b) e) [ inl h ↦ inl (ltb-true 9999 a h) | inr h ↦ inr (ltb-true 9999 b h) ]

module _ (z : Size) (t : Table) where
  -- ---- refusals

  module _ (room : ℕ) (why : Refusal) where
    pub written_refused_means : written z t room ≡ Err why → Refuses (writer_rules z t room) why
    unfolding written writable
    written_refused_means e = refuses_of (writer_rules z t room) why (refused_as (sheet_of t) (writable z t room) why e)

    pub means_written_refused : Refuses (writer_rules z t room) why → written z t room ≡ Err why
    unfolding written writable
    means_written_refused r = ap (written_as (sheet_of t)) (of_refuses r)

  pub refused_unchanged : (b : List ℕ) (why : Refusal) → written z t (length b) ≡ Err why → bytes_written z t b ≡ b
  unfolding written bytes_written
  refused_unchanged b why e = ap (held_as (sheet_of t) b) (refused_as (sheet_of t) (writable z t (length b)) why e)

  -- ---- sheets that are written

  pub written_keeps : (room n : ℕ) → written z t room ≡ Ok n → KeepsRules (writer_rules z t room)
  unfolding written writable
  written_keeps room n e = keeps_of (writer_rules z t room) (length_as (sheet_of t) (writable z t room) n e).0

  pub length_exact : (room n : ℕ) → written z t room ≡ Ok n → (n ≡ length (sheet_of t)) × (n ≤ room)
  unfolding written
  length_exact room n e =
      let same : n ≡ length (sheet_of t) = (length_as (sheet_of t) (writable z t room) n e).1 in
      let fits : length (sheet_of t) ≤ room = ltb-false room (length (sheet_of t)) ((written_keeps room n e).1.1.1.1.0 0 (omega arith)) in
      (same, omega arith)

  pub written_held : (b : List ℕ) (n : ℕ) → written z t (length b) ≡ Ok n → bytes_written z t b ≡ laid (sheet_of t) b
  unfolding written bytes_written
  written_held b n e = ap (held_as (sheet_of t) b) (length_as (sheet_of t) (writable z t (length b)) n e).0

  -- A table that keeps the rules is written into bytes enough for its sheet.
  pub kept_written : (room : ℕ) → KeepsRules (table_rules z t) → length (sheet_of t) ≤ room → written z t room ≡ Ok (length (sheet_of t))
  unfolding written writable
  kept_written room k fits =
      ap (written_as (sheet_of t))
      (of_keeps (writer_rules z t room)
      (k.0, (k.1.0, (k.1.1.0, (k.1.1.1.0, (λ i h. le-ltb room (length (sheet_of t)) fits, tt))))))

  -- And is refused with less, for nothing else.
  pub kept_refused : (room : ℕ) → KeepsRules (table_rules z t) → room < length (sheet_of t) → written z t room ≡ Err ShortBytes
  kept_refused room k short =
      means_written_refused room ShortBytes
      (Refuses.later k.0
      (Refuses.later k.1.0
      (Refuses.later k.1.1.0
      (Refuses.later k.1.1.1.0
      (Refuses.here {i = 0} (record { there = omega arith; passes = lt-ltb room (length (sheet_of t)) short; before = λ i h. absurd (omega arith) }))))))

  -- 14 is given for nothing else: the table keeps the other rules, and its sheet is longer than the room.
  pub room_told : (room : ℕ) → written z t room ≡ Err ShortBytes → KeepsRules (table_rules z t) × (room < length (sheet_of t))
  room_told room e =
      let sizes = passed_rule (written_refused_means room ShortBytes e) (λ k f. cc) in
      let kinds = passed_rule sizes.1 (λ k f. cc) in
      let operands = passed_rule kinds.1 (λ k f. cc) in
      let roots = passed_rule operands.1 (λ k f. cc) in
      let short = broken_rule roots.1 no_rule_refuses in
      ((sizes.0, (kinds.0, (operands.0, (roots.0, tt)))), ltb-true room (length (sheet_of t)) short.1.passes)

  -- ---- which number is too long

  -- A row that is named has an operand that is too long.
  pub row_told :
      (room : ℕ) (i : RowNumber) → written z t room ≡ Err (LongOperand i)
      → (i.0 < rows t) × ((9999 < x_at t i.0) ⊎ (9999 < y_at t i.0))
  row_told room i e =
      let sizes = passed_rule (written_refused_means room (LongOperand i) e) (λ k f. cc) in
      let kinds = passed_rule sizes.1 (λ k f. cc) in
      let long = broken_rule kinds.1 (λ rest. no_rule_refuses (passed_rule (passed_rule rest (λ k f. cc)).1 (λ k f. cc)).1) in
      let same : LongOperand (record { 0 = long.0 }) ≡ LongOperand i = long.2 in
      let place : long.0 ≡ i.0 = cc in
      subst (λ (k : ℕ). (k < rows t) × ((9999 < x_at t k) ⊎ (9999 < y_at t k))) {x = long.0} place
      (long.1.there, either_long (x_at t long.0) (y_at t long.0) long.1.passes)

  -- A procedure that is named has a root that is too long, and no row has an operand that is.
  pub root_told :
      (room : ℕ) (f : ProcNumber) → written z t room ≡ Err (LongRoot f)
      → (f.0 < procs t) × (9999 < root_at t f.0) × ((i : ℕ) → i < rows t → (x_at t i ≤ 9999) × (y_at t i ≤ 9999))
  root_told room f e =
      let sizes = passed_rule (written_refused_means room (LongRoot f) e) (λ k f. cc) in
      let kinds = passed_rule sizes.1 (λ k f. cc) in
      let operands = passed_rule kinds.1 (λ k f. cc) in
      let long = broken_rule operands.1 (λ rest. no_rule_refuses (passed_rule rest (λ k f. cc)).1) in
      let same : LongRoot (record { 0 = long.0 }) ≡ LongRoot f = long.2 in
      let place : long.0 ≡ f.0 = cc in (
        subst (λ (k : ℕ). k < procs t) {x = long.0} place long.1.there,
        subst (λ (k : ℕ). 9999 < root_at t k) {x = long.0} place (ltb-true 9999 (root_at t long.0) long.1.passes),
        λ i h.
            let short = or_parts (too_long (x_at t i)) (too_long (y_at t i)) (operands.0 i h) in
            (ltb-false 9999 (x_at t i) short.0, ltb-false 9999 (y_at t i) short.1),
      )
