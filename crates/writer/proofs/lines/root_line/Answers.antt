-- The mark and the number are the line's fields, one behind the other.
use Rattle.std.proofs.Common.{[]}
use Rattle.text.specs.Bytes.{ascii}
use Rattle.text.specs.Numbers.{spelled}
use Rattle.text.proofs.Takes.{told_first}
use Rattle.sheet.specs.Form.{spelled_root}
use Rattle.writer.proofs.lines.root_line.Goals as goal

pub returns : goal.returns
unfolding spelled_root
returns g c =
    told_first (record { nothing = g.met.S.Sink.nothing; joined = g.met.S.Sink.joined }) (ascii "P") (spelled c.args.root.0) [] c.text.ensures
    (rw c.from.ensures at c.number.ensures)
