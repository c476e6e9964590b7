-- The mark, the keyword and the two numbers are the line's fields, one behind the other.
use Rattle.std.proofs.Common.{[], ◌∷◌}
use Rattle.text.specs.Bytes.{ascii}
use Rattle.text.specs.Numbers.{spelled}
use Rattle.text.proofs.Takes.{Told, told_first}
use Rattle.sheet.specs.Form.{keyword, spelled_row}
use Rattle.writer.proofs.lines.row_line.Goals as goal

pub returns : goal.returns
unfolding spelled_row
returns g c =
    let laws : Told g.S.Sink.takes = record { nothing = g.met.S.Sink.nothing; joined = g.met.S.Sink.joined } in
    let row = c.args.row in
    told_first laws (ascii "R") (keyword row.kind) (spelled row.x ∷ spelled row.y ∷ []) c.text.ensures
    (told_first laws (keyword row.kind) (spelled row.x) (spelled row.y ∷ []) c.keyword.ensures
    (told_first laws (spelled row.x) (spelled row.y) [] (rw c.from.ensures at c.number.ensures) (rw c.from-2.ensures at c.number-2.ensures)))
