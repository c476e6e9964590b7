-- What was put at the front of the bytes stands there when their loan ends, since the count of the listing's bytes left room for it.
use Rattle.std.proofs.Common.{◌≤◌, length, arith, sym, rules}
use Rattle.numbers.specs.Sizes.{ours}
use Rattle.text.proofs.PutLaws.{put_front}
use Rattle.text.proofs.Takes.{counted}
use Rattle.listing.specs.Listing.{listing}
use Rattle.listing.proofs.Sizes.{listing_counts}
use Rattle.listing.proofs.ReplyLaws.{too_long_lem, fits}
use Rattle.listing.proofs.Listing.hand_over.Goals as goal

pub returns-then-bytes-needed-clause-reply : goal.returns-then-bytes-needed-clause-reply
returns-then-bytes-needed-clause-reply c =
    let l = c.args.self.now in
    let exact = counted c.tell.ensures (listing_counts l.pairs.now l.rounds l.wide l.few) in
    search (rules, too_long_lem)

pub returns-clause-reply : goal.returns-clause-reply
returns-clause-reply c =
    let l = c.args.self.now in
    let exact = counted c.tell.ensures (listing_counts l.pairs.now l.rounds l.wide l.few) in
    search (rules, fits)

pub returns-clause-text : goal.returns-clause-text
returns-clause-text c =
    let l = c.args.self.now in
    let exact = counted c.tell.ensures (listing_counts l.pairs.now l.rounds l.wide l.few) in
    let room : length (listing ours.words l.pairs.now l.rounds l.wide) ≤ length c.args.bytes.now = omega arith in
    let stands = put_front room c.tell-2.ensures.1 in
    let same = sym c.tell-2.ensures.0 in
    grind (arith, stands, same)
