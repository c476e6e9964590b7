-- The text is found exactly where it stands at the front of the bytes from the place on.
use Rattle.std.proofs.Common.{refl, sym, ◌∙◌}
use Rattle.std.proofs.lemmas.Bool.{false≢true}
use Rattle.std.proofs.lemmas.Bool.Decides.{Decides-eqb}
use Rattle.std.proofs.lemmas.Slice.Eq.{starts_is}
use Rattle.text.proofs.TokenLaws.{got_from, text_stands, text_differs}
use Rattle.text.proofs.text_at.Goals as goal

pub returns-then-starts_with : goal.returns-then-starts_with
returns-then-starts_with c =
    let here = got_from c.args.bytes.now c.args.at c.get.result _ c.get.ensures.lookup refl c.unwrap_or-here.ensures in
    let stands = starts_is Decides-eqb c.unwrap_or-here.result.now c.args.text.now c.starts_with.result c.starts_with.ensures.value in
    text_stands c.args.bytes.now c.args.text.now c.args.at c.args.n _ (sym here ∙ stands.0 c.if-starts_with.true)

pub returns-else-starts_with : goal.returns-else-starts_with
returns-else-starts_with c =
    let here = got_from c.args.bytes.now c.args.at c.get.result _ c.get.ensures.lookup refl c.unwrap_or-here.ensures in
    let stands = starts_is Decides-eqb c.unwrap_or-here.result.now c.args.text.now c.starts_with.result c.starts_with.ensures.value in
    text_differs c.args.bytes.now c.args.text.now c.args.at c.args.n
    (λ rest e. false≢true (sym c.if-starts_with.false ∙ stands.1 rest (here ∙ e)))
