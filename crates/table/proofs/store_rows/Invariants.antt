-- Each turn has stored one row's fields more, a column at a time.
use Rattle.std.proofs.Common.{◌≡◌}
use Rattle.recipe.specs.Records.{kinds_of, xs_of, ys_of}
use Rattle.table.specs.Inner.{overlaid}
use Rattle.table.proofs.store_rows.Given as goal

abbrev pub invariant-loop-i : goal.invariant-loop-i
invariant-loop-i l =
    (l.kinds ≡ overlaid l.i (kinds_of l.rows) l.initial.kinds)
    × (l.xs ≡ overlaid l.i (xs_of l.rows) l.initial.xs)
    × (l.ys ≡ overlaid l.i (ys_of l.rows) l.initial.ys)
