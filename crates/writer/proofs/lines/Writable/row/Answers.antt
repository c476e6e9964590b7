-- A table that is admitted has both operands to each row.
use Rattle.std.proofs.Common.{arith}
use Rattle.numbers.specs.Sizes.{ours}
use Rattle.recipe.specs.Tables.{lists_of}
use Rattle.writer.proofs.Kept.{writable_keeps}
use Rattle.writer.proofs.lines.Writable.row.Goals as goal

pub bounds-self-i-2 : goal.bounds-self-i-2
bounds-self-i-2 c = let kept = writable_keeps ours (lists_of c.args.self.now.table) c.args.self.now.admitted in omega arith

pub bounds-self-i-3 : goal.bounds-self-i-3
bounds-self-i-3 c = let kept = writable_keeps ours (lists_of c.args.self.now.table) c.args.self.now.admitted in omega arith
