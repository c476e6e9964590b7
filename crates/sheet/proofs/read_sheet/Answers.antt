-- What is held of the reading is stored, and a refusal stores nothing.
use Rattle.std.proofs.Common.{◌≡◌, ◌≤◌, ℕ, length, sym, ap, ◌∙◌, arith, Ok}
use Rattle.numbers.specs.Sizes.{ours}
use Rattle.recipe.specs.declared.Row.{Row}
use Rattle.table.specs.Reading.{rows_of, roots_of, row_places, reply_of}
use Rattle.table.specs.Inner.{held_of}
use Rattle.table.proofs.Laying.{held_column, held_roots}
use Rattle.table.proofs.Replies.{held_table}
use Rattle.sheet.specs.Reading.{read_into}
use Rattle.sheet.proofs.SheetForms.{sheet_within}
use Rattle.sheet.proofs.read_sheet.Goals as goal

pub returns : goal.returns
returns c =
    let a = c.args in
    let w = read_into ours a.bytes.now a.kinds.now a.xs.now a.ys.now a.roots.now in
    let held = c.in_ok-held.held in
    let places = row_places a.kinds.now a.xs.now a.ys.now in
    let measured : c.least-2.result ≡ places = cc in
    let is_held : held_of w ≡ Ok held = rw (← measured) (sym c.in_ok-held.ensures) in
    let t = held_table w held is_held in
    let stored = c.store_rows.ensures in
    let room = sheet_within ours places (length a.roots.now) a.bytes.now in
    let fits : length (rows_of w) ≤ places = omega (arith, room.rows) in
    let column = λ (f : Row → ℕ). held_column (rows_of w) (roots_of w) t.1 f in (
      rw (t.1) (ap reply_of (sym t.0)),
      (
        stored.0 ∙ column (λ (r : Row). r.kind) a.kinds.now places fits (omega arith),
        (
          stored.1 ∙ column (λ (r : Row). r.x) a.xs.now places fits (omega arith),
          (
            stored.2 ∙ column (λ (r : Row). r.y) a.ys.now places fits (omega arith),
            c.store.ensures ∙ held_roots (rows_of w) (roots_of w) t.1 a.roots.now (omega (arith, room.roots)),
          ),
        ),
      ),
    )
