-- One more root counts one more use.
use Rattle.std.proofs.Common.{ℕ, ◌+◌, ◌≡◌, length, sym, ap, ◌∙◌, arith, add-zero, add_assoc}
use Rattle.numbers.specs.General.{sum_below}
use Rattle.numbers.proofs.SumLaws.{sum_next}
use Rattle.recipe.proofs.Counters.{counts_same}
use Rattle.recipe.proofs.usage.count_roots.Goals as goal

pub loop-root-init : goal.loop-root-init
unfolding sum_below
loop-root-init c met m = counts_same c.args.counts.now met _ (λ i. sym (add-zero (met i))) m

pub loop-root-preserved : goal.loop-root-preserved
loop-root-preserved c met m =
    counts_same c.count.new.counts _ _ (λ i. add_assoc _ _ _ ∙ ap (λ (n : ℕ). met i + n) (sym (sum_next _ _)))
    (c.count.ensures _ (c.loop-root.invariant met m))

pub returns : goal.returns
returns c met m =
    let e : c.loop-root.root-index ≡ length c.args.table.now.roots.now = omega arith in
    rw e at (c.loop-root.invariant met m)
