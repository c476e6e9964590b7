-- The kind that the number was read as says which rows are counted.
use Rattle.std.proofs.Common.{ℕ, ◌+◌, ap, sym, arith, add_assoc}
use Rattle.recipe.specs.Rules.{uses_by}
use Rattle.recipe.proofs.Operands.{counted_once, one_child_uses, no_child_uses}
use Rattle.recipe.proofs.Counters.{counts_same}
use Rattle.recipe.proofs.usage.count_row.Goals as goal

pub count-requires : goal.count-requires
unfolding uses_by
count-requires c = c.requires c.args.x (rw (c.try_from.ensures, c.in-Ok.is, c.in-Seq.is) (omega (arith, counted_once c.args.x)))

pub count-requires-in-Seq : goal.count-requires-in-Seq
unfolding uses_by
count-requires-in-Seq c = c.requires c.args.y (rw (c.try_from.ensures, c.in-Ok.is, c.in-Seq.is) (omega (arith, counted_once c.args.y)))

pub count-requires-in-Loop : goal.count-requires-in-Loop
count-requires-in-Loop c =
    let once = one_child_uses c.args.x c.args.y c.args.x c.in-Loop.is in
    c.requires c.args.x (rw (c.try_from.ensures, c.in-Ok.is) (omega (arith, once, counted_once c.args.x)))

pub returns-in-Seq : goal.returns-in-Seq
unfolding uses_by
returns-in-Seq c met m =
    rw (c.try_from.ensures, c.in-Ok.is, c.in-Seq.is)
    (counts_same _ _ _ (λ i. add_assoc _ _ _) (c.count-in-Seq.ensures _ (c.count.ensures met m)))

pub returns-in-Loop : goal.returns-in-Loop
returns-in-Loop c met m =
    rw (c.try_from.ensures, c.in-Ok.is)
    (counts_same _ _ _ (λ i. ap (λ (n : ℕ). met i + n) (sym (one_child_uses _ _ i c.in-Loop.is))) (c.count-in-Loop.ensures met m))

pub returns-in-Skip : goal.returns-in-Skip
returns-in-Skip c met m =
    rw (c.try_from.ensures, c.in-Ok.is)
    (counts_same _ _ _ (λ i. omega (arith, no_child_uses c.args.x c.args.y i c.in-Skip.is)) m)
