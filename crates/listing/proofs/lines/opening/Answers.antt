-- The five fields of the line are told one behind the other.
use Rattle.std.proofs.Common.{[], ◌∷◌}
use Rattle.text.specs.Bytes.{ascii}
use Rattle.text.specs.Numbers.{spelled}
use Rattle.listing.specs.Listing.{verdict_text, opening}
use Rattle.text.proofs.Takes.{Told, told_first}
use Rattle.listing.proofs.lines.opening.Goals as goal

pub returns : goal.returns
unfolding opening
returns g c =
    let laws : Told g.S.Sink.takes = record { nothing = g.met.S.Sink.nothing; joined = g.met.S.Sink.joined } in
    let a = c.args in
    told_first laws (ascii "pairs") (spelled a.count) (ascii "rounds" ∷ spelled a.rounds ∷ verdict_text a.wide ∷ []) c.text.ensures
    (told_first laws (spelled a.count) (ascii "rounds") (spelled a.rounds ∷ verdict_text a.wide ∷ []) c.number.ensures
    (told_first laws (ascii "rounds") (spelled a.rounds) (verdict_text a.wide ∷ []) c.text-2.ensures
    (told_first laws (spelled a.rounds) (verdict_text a.wide) [] c.number-2.ensures
    (rw c.verdict_text.ensures at c.text-3.ensures))))
