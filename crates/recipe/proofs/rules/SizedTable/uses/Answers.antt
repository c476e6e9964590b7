-- The counters hold how often each row is used, up to two, so they tell the rows that are used again and those that are not used.
use Rattle.std.proofs.Common.{◌∙◌, arith}
use borrow.Author.Tests.{leb-false}
use Rattle.numbers.specs.Sizes.{ours}
use Rattle.recipe.specs.Tables.{lists_of}
use Rattle.recipe.specs.Rules.{operand_rule, root_rule, once_rule, used_rule, uses}
use Rattle.recipe.specs.Inner.{Counts}
use Rattle.recipe.proofs.Operands.{child_before}
use Rattle.recipe.proofs.Counters.{counts_none, first_at_two, nowhere_at_two, first_at_zero, nowhere_at_zero}
use Rattle.recipe.proofs.Judging.{stops, passes, kept_nowhere, refused_before, kept_before}
use Rattle.recipe.proofs.rules.SizedTable.uses.Goals as goal

pub count_children-requires-clause-below : goal.count_children-requires-clause-below
count_children-requires-clause-below c j i l u =
    let t = lists_of c.args.self.now.table in
    omega (arith, child_before ours t j i (kept_nowhere (operand_rule ours t) c.requires.operands j l) u, c.args.self.now.sized.few_rows_lem)

pub count_children-requires-clause-none : goal.count_children-requires-clause-none
count_children-requires-clause-none c = counts_none

pub count_roots-requires : goal.count_roots-requires
count_roots-requires c f l =
    let t = lists_of c.args.self.now.table in
    omega (arith, leb-false _ _ (kept_nowhere (root_rule t) c.requires.roots f l), c.args.self.now.sized.few_rows_lem)

pub returns-in-Some : goal.returns-in-Some
returns-in-Some c =
    let t = lists_of c.args.self.now.table in
    let few = c.args.self.now.sized.few_rows_lem in
    refused_before _ _ (stops (once_rule t) _ (first_at_two _ _ _ few (c.count_roots.ensures _ c.count_children.ensures) c.in-Some.ensures))

pub returns-in-Some-first_with : goal.returns-in-Some-first_with
returns-in-Some-first_with c =
    let t = lists_of c.args.self.now.table in
    let few = c.args.self.now.sized.few_rows_lem in
    let counted : Counts c.count_roots.new.counts (uses t) = c.count_roots.ensures _ c.count_children.ensures in
    stops (used_rule t) _ (first_at_zero _ _ _ few counted c.in-Some-first_with.ensures)
    ∙ kept_before _ _ (passes (once_rule t) (nowhere_at_two _ _ _ few counted c.in_default.ensures))

pub returns : goal.returns
returns c =
    let t = lists_of c.args.self.now.table in
    let few = c.args.self.now.sized.few_rows_lem in
    let counted : Counts c.count_roots.new.counts (uses t) = c.count_roots.ensures _ c.count_children.ensures in
    passes (used_rule t) (nowhere_at_zero _ _ _ few counted c.in_default-first_with.ensures)
    ∙ kept_before _ _ (passes (once_rule t) (nowhere_at_two _ _ _ few counted c.in_default.ensures))
