-- The opening line is told, and the lines of the pairs behind it.
use Rattle.listing.specs.Listing.{listing}
use Rattle.listing.proofs.Listing.tell.Goals as goal

pub returns : goal.returns
unfolding listing
returns g c = rw c.args.self.now.counted at (g.met.S.Sink.joined _ _ _ _ _ c.opening.ensures c.all.ensures)
