-- The reply goes by the judge's, and of a table that the judge admits by the room, since the room is tried last.
-- Assumes nothing.
use mathlib.Core.Bool.{Bool, true, false}
use mathlib.Core.List.{List, [], ◌∷◌}
use mathlib.Core.Path.{◌≡◌, refl, sym, ap, ◌∙◌}
use Prim.Native.Nat.{ℕ, ◌≤◌, ◌<◌}
use native.Mathlib.Omega.{arith}
use borrow.Author.Tests.{lt-ltb, le-ltb}
use lib.Dec.{ltb}
use lib.ListN.{length, length-map}
use Rattle.std.specs.Prelude.{Ok, Err}
use Rattle.numbers.specs.General.{laid}
use Rattle.numbers.specs.Sizes.{Size, row_ceiling}
use Rattle.numbers.specs.declared.Refusal.{Refusal}
use Rattle.numbers.specs.declared.Refusal.TheVariants.{Sizes, ShortBytes}
use Rattle.recipe.specs.Records.{table_of_rows}
use Rattle.recipe.specs.Rules.{judged_by}
use Rattle.recipe.specs.Tables.{Table, rows, procs}
use Rattle.recipe.specs.declared.Row.{Row}
use Rattle.recipe.proofs.Judging.{whole_broken, whole_kept, all_passed, earlier_refuse, later_decide}
use Rattle.writer.specs.Inner.{Writes}
use Rattle.writer.specs.Replies.{written_as, held_as, written, bytes_written}
use Rattle.writer.specs.Rules.{room_rule, table_rules, writable}
use Rattle.writer.specs.Sheets.{sheet_of}
use Rattle.writer.proofs.Judging.{sized, sizes_pass, sizes_refused}

module _ (z : Size) (t : Table) (b : List ℕ) where
  by_room : judged_by (table_rules z t) ≡ Ok tt → writable z t (length b) ≡ judged_by (room_rule t (length b) ∷ [])
  unfolding writable
  by_room ok = later_decide (table_rules z t) (room_rule t (length b) ∷ []) ok

  refused_so : (why : Refusal) → writable z t (length b) ≡ Err why → Writes z t b (Err why) b
  unfolding written bytes_written
  refused_so why e = (sym (ap (written_as (sheet_of t)) e), sym (ap (held_as (sheet_of t) b) e))

  admitted_so : writable z t (length b) ≡ Ok tt → Writes z t b (Ok (length (sheet_of t))) (laid (sheet_of t) b)
  unfolding written bytes_written
  admitted_so e = (sym (ap (written_as (sheet_of t)) e), sym (ap (held_as (sheet_of t) b) e))

  -- A refusal by the judge is handed on.
  pub refused_writing : (why : Refusal) → judged_by (table_rules z t) ≡ Err why → Writes z t b (Err why) b
  unfolding writable
  refused_writing why e = refused_so why (earlier_refuse (table_rules z t) (room_rule t (length b) ∷ []) why e)

  -- A sheet that does not fit is refused.
  pub short_writing : judged_by (table_rules z t) ≡ Ok tt → length b < length (sheet_of t) → Writes z t b (Err ShortBytes) b
  short_writing ok h =
      refused_so ShortBytes (by_room ok ∙ whole_broken ShortBytes [] (ltb (length b) (length (sheet_of t))) (lt-ltb (length b) (length (sheet_of t)) h))

  -- A sheet that fits is written.
  pub fitting_writing :
      judged_by (table_rules z t) ≡ Ok tt → length (sheet_of t) ≤ length b → Writes z t b (Ok (length (sheet_of t))) (laid (sheet_of t) b)
  fitting_writing ok h =
      admitted_so
      (by_room ok ∙ whole_kept ShortBytes [] (ltb (length b) (length (sheet_of t))) (le-ltb (length b) (length (sheet_of t)) h) ∙ all_passed)

-- More rows than a table can have are refused for their sizes.
module _ (z : Size) where
  wrong : (t : Table) → row_ceiling < rows t → sizes_pass z t ≡ false
  wrong t h = go (sizes_pass z t) refl
    where
      go : (b : Bool) → sizes_pass z t ≡ b → b ≡ false
      go true e = absurd (omega (arith, (sized z (rows t) (length t.xs) (length t.ys) (procs t) e).few_rows_lem))
      go false e = refl

  pub too_many :
      (lent : List Row) (roots b : List ℕ) → row_ceiling < length lent → Writes z (table_of_rows lent roots) b (Err Sizes) b
  too_many lent roots b h =
      let t = table_of_rows lent roots in
      refused_writing z t b Sizes (sizes_refused z t (wrong t (omega (arith, length-map lent (λ (r : Row). r.kind)))))

  -- Reply and bytes apart.
  pub too_many_reply :
      (lent : List Row) (roots b : List ℕ) → row_ceiling < length lent → Err Sizes ≡ written z (table_of_rows lent roots) (length b)
  too_many_reply lent roots b h = (too_many lent roots b h).0

  pub too_many_bytes : (lent : List Row) (roots b : List ℕ) → row_ceiling < length lent → b ≡ bytes_written z (table_of_rows lent roots) b
  too_many_bytes lent roots b h = (too_many lent roots b h).1
