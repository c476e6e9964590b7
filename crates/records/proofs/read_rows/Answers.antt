-- What is held of the reading is stored over the lent records and roots, and a refusal stores nothing.
use Rattle.std.proofs.Common.{length, sym, ap, ◌∙◌, arith}
use Rattle.numbers.specs.Sizes.{ours}
use Rattle.table.specs.Reading.{rows_of, roots_of, reply_of}
use Rattle.table.proofs.Laying.{held_rows, held_roots}
use Rattle.table.proofs.Replies.{held_table}
use Rattle.sheet.proofs.SheetForms.{sheet_within}
use Rattle.records.specs.Records.{read_records}
use Rattle.records.proofs.read_rows.Goals as goal

pub returns : goal.returns
returns c =
    let a = c.args in
    let w = read_records ours a.bytes.now a.rows.now a.roots.now in
    let t = held_table w c.in_ok-held.held (sym c.in_ok-held.ensures) in
    let room = sheet_within ours (length a.rows.now) (length a.roots.now) a.bytes.now in (
      rw (t.1) (ap reply_of (sym t.0)),
      c.store.ensures ∙ held_rows (rows_of w) (roots_of w) t.1 a.rows.now (omega (arith, room.rows)),
      c.store-2.ensures ∙ held_roots (rows_of w) (roots_of w) t.1 a.roots.now (omega (arith, room.roots)),
    )
