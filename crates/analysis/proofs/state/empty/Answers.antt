-- Every entry is the empty summary.
use Rattle.std.proofs.Common.{ap, ◌∙◌}
use Rattle.std.proofs.lemmas.List.{get_or-replicate}
use Rattle.numbers.specs.Sizes.{ours}
use Rattle.analysis.specs.Inner.{words_in, no_summary}
use Rattle.analysis.proofs.state.empty.Goals as goal

pub returns : goal.returns
returns c = λ f h. ap words_in (get_or-replicate ours.procs f _ no_summary h) ∙ c.empty.ensures
