-- The two numbers are the line's fields, one behind the other.
use Rattle.std.proofs.Common.{[]}
use Rattle.text.specs.Numbers.{spelled}
use Rattle.listing.specs.Listing.{pair_line}
use Rattle.text.proofs.Takes.{told_first}
use Rattle.listing.proofs.lines.line.Goals as goal

pub returns : goal.returns
unfolding pair_line
returns g c =
    told_first (record { nothing = g.met.S.Sink.nothing; joined = g.met.S.Sink.joined }) (spelled c.args.i.0) (spelled c.args.j.0) [] c.number.ensures c.number-2.ensures
