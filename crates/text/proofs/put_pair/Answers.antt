-- One digit, or a tenth's digit and the last one behind it.
use Rattle.std.proofs.Common.{◌/◌, arith}
use Rattle.text.proofs.SpelledLaws.{spelled_alone, spelled_last}
use Rattle.text.proofs.PutLaws.{put_behind}
use Rattle.text.proofs.put_pair.Goals as goal

pub returns-then-n-lt10 : goal.returns-then-n-lt10
returns-then-n-lt10 c = rw (spelled_alone c.args.n c.if-n-lt10.true) c.put_digit.ensures

pub returns : goal.returns
returns c =
    rw (spelled_last c.args.n c.if-n-lt10.false, spelled_alone (c.args.n / 10) (omega arith))
    (put_behind c.put_digit-second.ensures c.put_digit-2.ensures)
