-- What is marked besides nothing is the statement's own pairs.
use Rattle.std.proofs.Common.{List, ℕ, rules, ap, ◌∙◌}
use Rattle.numbers.specs.Sizes.{ours}
use Rattle.recipe.specs.Tables.{lists_of}
use Rattle.analysis.specs.Inner.{marked_into, row_words}
use Rattle.analysis.proofs.RowCases.{body_row}
use Rattle.analysis.proofs.rounds.body_summary.Goals as goal

pub returns : goal.returns
returns c =
    let u = c.args.turn.now in
    let t = lists_of u.recipe.table in
    body_row ours t u.recipe.admitted u.whole c.args.root.0 c.requires c.args.new.now.pairs (search rules)
    (c.row_summary-new.ensures
    ∙ ap (λ (m : List ℕ). marked_into ours.words m (row_words ours.words t u.held.now c.args.root.0)) c.clear.ensures)
