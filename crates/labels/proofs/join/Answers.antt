-- The union of two sets of one word is the or of the words.
use Rattle.std.proofs.Common.{sym}
use Rattle.labels.proofs.OneWord.{union_one}
use Rattle.labels.proofs.join.Goals as goal

pub returns : goal.returns
returns c = sym (union_one c.args.a c.args.b)
