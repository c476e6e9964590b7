-- What is kept and the lines that are left make the whole reading. Each kept line takes a place, so the places that are left fall.
use Rattle.std.proofs.Common.{◌+◌, ◌-◌}
use Rattle.sheet.proofs.Keeping.{KeptSoFar, counting}
use Rattle.sheet.proofs.hold_sheet.Given as goal

abbrev pub invariant-loop-line : goal.invariant-loop-line
invariant-loop-line l = KeptSoFar l.bytes l.room.rows l.room.roots (counting l.held l.kept) l.at

abbrev pub decreases-loop-line : goal.decreases-loop-line
decreases-loop-line l = (l.room.rows - l.kept.rows) + (l.room.roots - l.kept.roots)
