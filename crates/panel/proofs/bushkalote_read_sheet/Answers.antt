-- No reading passes the ceilings, so its reply has a code.
use Rattle.std.proofs.Common.{sym, subst}
use Rattle.panel.specs.Inner.{WithinCeilings}
use Rattle.panel.proofs.CodeLaws.{reading_within}
use Rattle.panel.proofs.bushkalote_read_sheet.Goals as goal

pub read_code-requires : goal.read_code-requires
read_code-requires c = subst WithinCeilings (sym c.read_sheet.ensures.0) (reading_within _ _ _)
