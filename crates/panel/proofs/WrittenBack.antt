-- A caller in C who holds the table can tell every reply of the writer by its number: 15 with a place names the row there if an operand of that row is too
-- long, and else the procedure, since the rows are tried first.
-- Assumes nothing.
use mathlib.Core.List.{[], ◌∷◌}
use mathlib.Core.Logic.{◌⊎◌, inl, inr, ⊎_elim}
use mathlib.Core.Path.{◌≡◌, refl, sym, ap, ◌∙◌}
use Prim.Native.Nat.{ℕ, ◌<◌}
use native.Mathlib.Decide.{ℕ_discrete}
use native.Mathlib.Omega.{arith}
use borrow.Author.Tests.{not-false}
use lib.ListN.{length}
use Rattle.std.specs.Prelude.{Result, Ok, Err}
use Rattle.numbers.specs.Refusals.{refusal_number, refusal_place}
use Rattle.numbers.specs.Sizes.{ours}
use Rattle.numbers.specs.declared.ProcNumber.{ProcNumber}
use Rattle.numbers.specs.declared.Refusal.{Refusal}
use Rattle.numbers.specs.declared.Refusal.TheVariants.{LongOperand, LongRoot}
use Rattle.numbers.specs.declared.RowNumber.{RowNumber}
use Rattle.numbers.proofs.Refusals.{refusal_determined, fifteen_is}
use Rattle.recipe.specs.Offences.{Refuses}
use Rattle.recipe.specs.Rules.{kind_rule}
use Rattle.recipe.specs.Tables.{Table, rows, procs}
use Rattle.writer.specs.Replies.{written}
use Rattle.writer.specs.Rules.{operand_rule, root_rule, room_rule, writer_rules}
use Rattle.writer.proofs.Judging.{WritableSizes, sized, sizes_pass}
use Rattle.writer.proofs.Refusing.{written_refused_means, length_exact, row_told, root_told}
use Rattle.writer.proofs.RoundTrips.{table_keeps}
use Rattle.writer.proofs.Sizes.{sheet_short}
use Rattle.panel.specs.Codes.{number_unit, reply_code}
use Rattle.panel.proofs.ReadBack.{halves_told, success_told}

module _ (t : Table) where
  -- ---- places and lengths are below the unit of a number

  past_sizes :
      (room : ℕ) {why : Refusal} → WritableSizes ours (rows t) (length t.xs) (length t.ys) (procs t)
      → Refuses (kind_rule t ∷ operand_rule t ∷ root_rule t ∷ room_rule t room ∷ []) why → refusal_place why < number_unit
  past_sizes room right (Refuses.here f) = omega (arith, right.few_rows_lem, f.there)
  past_sizes room right (Refuses.later k (Refuses.here f)) = omega (arith, right.few_rows_lem, f.there)
  past_sizes room right (Refuses.later k (Refuses.later l (Refuses.here f))) = omega (arith, right.few_procs_lem, f.there)
  past_sizes room right (Refuses.later k (Refuses.later l (Refuses.later m (Refuses.here f)))) = omega arith
  past_sizes room right (Refuses.later k (Refuses.later l (Refuses.later m (Refuses.later n o)))) = elim o [ ]

  near_place : (room : ℕ) {why : Refusal} → Refuses (writer_rules ours t room) why → refusal_place why < number_unit
  near_place room (Refuses.here f) = omega arith
  near_place room (Refuses.later none o) =
      past_sizes room (sized ours (rows t) (length t.xs) (length t.ys) (procs t) (not-false (sizes_pass ours t) (none 0 (omega arith)))) o

  near_length : (room n : ℕ) → written ours t room ≡ Ok n → n < number_unit
  near_length room n e = omega (arith, (length_exact ours t room n e).0, sheet_short t (table_keeps ours t room n e))

  -- ---- 15 of a row and 15 of a procedure

  not_both : (a b : ℕ) (i : RowNumber) (f : ProcNumber) → written ours t a ≡ Err (LongOperand i) → written ours t b ≡ Err (LongRoot f) → ⊥
  not_both a b i f e g =
      let row = row_told ours t a i e in
      let short = (root_told ours t b f g).2 i.0 row.0 in
      ⊎_elim (λ h. omega (arith, h, short.0)) (λ h. omega (arith, h, short.1)) row.1

  module _ (a b : ℕ) (r s : Refusal) (e : written ours t a ≡ Err r) (f : written ours t b ≡ Err s)
      (same_place : refusal_place r ≡ refusal_place s) where
    both_fifteen : refusal_number r ≡ 15 → refusal_number s ≡ 15 → r ≡ s
    both_fifteen p q = go (fifteen_is r p) (fifteen_is s q)
      where
        go :
            (r ≡ LongOperand (record { 0 = refusal_place r })) ⊎ (r ≡ LongRoot (record { 0 = refusal_place r }))
            → (s ≡ LongOperand (record { 0 = refusal_place s })) ⊎ (s ≡ LongRoot (record { 0 = refusal_place s })) → r ≡ s
        go (inl x) (inl y) = x ∙ ap (λ (k : ℕ). LongOperand (record { 0 = k })) same_place ∙ sym y
        go (inl x) (inr y) = absurd (not_both a b _ _ (e ∙ ap Err x) (f ∙ ap Err y))
        go (inr x) (inl y) = absurd (not_both b a _ _ (f ∙ ap Err y) (e ∙ ap Err x))
        go (inr x) (inr y) = x ∙ ap (λ (k : ℕ). LongRoot (record { 0 = k })) same_place ∙ sym y

    refusals_told : refusal_number r ≡ refusal_number s → r ≡ s
    refusals_told n = by_number (ℕ_discrete (refusal_number r) 15)
      where
        by_number : Dec (refusal_number r ≡ 15) → r ≡ s
        by_number (yes p) = both_fifteen p (sym n ∙ p)
        by_number (no p) = refusal_determined r s n same_place p

  -- Equal numbers are equal replies to the table, whatever the room.
  pub writing_told : (a b : ℕ) → reply_code (written ours t a) ≡ reply_code (written ours t b) → written ours t a ≡ written ours t b
  writing_told a b same = go (written ours t a) refl (written ours t b) refl same
    where
      go : (x : Result ℕ Refusal) → written ours t a ≡ x → (y : Result ℕ Refusal) → written ours t b ≡ y → reply_code x ≡ reply_code y → x ≡ y
      go (Ok n) e (Ok m) f c = ap Ok c
      go (Ok n) e (Err s) f c = success_told n s (near_length a n e) c
      go (Err r) e (Ok m) f c = success_told m r (near_length b m f) (sym c)
      go (Err r) e (Err s) f c =
          let halves =
          halves_told r s (near_place a (written_refused_means ours t a r e)) (near_place b (written_refused_means ours t b s f)) c
          in ap Err (refusals_told a b r s e f halves.1 halves.0)

  -- A number below the unit is a sheet's length.
  pub length_of_code : (room n : ℕ) → n ≡ reply_code (written ours t room) → n < number_unit → written ours t room ≡ Ok n
  length_of_code room n e h = go (written ours t room) e
    where
      go : (x : Result ℕ Refusal) → n ≡ reply_code x → x ≡ Ok n
      go (Ok m) c = ap Ok (sym c)
      go (Err r) c = success_told n r h c
