-- The first byte tells which keywords may stand there: those of its arm, which are tried in the order of the kinds.
use Rattle.std.proofs.Common.{[], ◌∷◌, ◌++◌, rules, arith}
use Rattle.text.specs.Bytes.{tab}
use Rattle.text.proofs.TokenLaws.{text_field}
use Rattle.sheet.specs.Form.{keyword}
use Rattle.sheet.proofs.KeywordLaws.{or_text, kind_here, kinds_with_s, with_s, with_l, with_a, with_f, with_c, by_first, no_first, no_keyword_behind}
use Rattle.sheet.proofs.keywords.keyword_at.Goals as goal

pub returns-in_err-get : goal.returns-in_err-get
returns-in_err-get c = rw c.from_residual.ensures (no_keyword_behind c.args.bytes.now c.args.at c.in_err-get.ensures.lookup.3)

pub returns-in-115 : goal.returns-in-115
returns-in-115 c =
    let b = c.args.bytes.now in
    let at = c.args.at in
    let got = c.in_ok-get.ensures.lookup.3 in
    let skip = text_field b at (keyword 0 ++ (tab ∷ [])) 0 c.text_at.ensures in
    let step = or_text b at (keyword 1 ++ (tab ∷ [])) 1 c.text_at.result c.or_else.result _ c.or_else.ensures (λ h. search rules) in
    let seq = or_text b at (keyword 2 ++ (tab ∷ [])) 2 c.or_else.result c.or_else-in-115.result _ c.or_else-in-115.ensures (λ h. search rules) in
    by_first b at got.0 (got.1 0) 115 kinds_with_s with_s c.in-115.is (rw (seq, step, skip))

pub returns-in-108 : goal.returns-in-108
returns-in-108 c =
    let got = c.in_ok-get.ensures.lookup.3 in
    by_first c.args.bytes.now c.args.at got.0 (got.1 0) 108 (kind_here 3) with_l c.in-108.is
    (text_field c.args.bytes.now c.args.at _ 3 c.text_at-in-108.ensures)

pub returns-in-97 : goal.returns-in-97
returns-in-97 c =
    let got = c.in_ok-get.ensures.lookup.3 in
    by_first c.args.bytes.now c.args.at got.0 (got.1 0) 97 (kind_here 4) with_a c.in-97.is
    (text_field c.args.bytes.now c.args.at _ 4 c.text_at-in-97.ensures)

pub returns-in-102 : goal.returns-in-102
returns-in-102 c =
    let got = c.in_ok-get.ensures.lookup.3 in
    by_first c.args.bytes.now c.args.at got.0 (got.1 0) 102 (kind_here 5) with_f c.in-102.is
    (text_field c.args.bytes.now c.args.at _ 5 c.text_at-in-102.ensures)

pub returns-in-99 : goal.returns-in-99
returns-in-99 c =
    let got = c.in_ok-get.ensures.lookup.3 in
    by_first c.args.bytes.now c.args.at got.0 (got.1 0) 99 (kind_here 6) with_c c.in-99.is
    (text_field c.args.bytes.now c.args.at _ 6 c.text_at-in-99.ensures)

pub returns-in_default : goal.returns-in_default
returns-in_default c =
    let got = c.in_ok-get.ensures.lookup.3 in
    no_first c.args.bytes.now c.args.at got.0 (got.1 0)
    (λ h. omega arith) (λ h. omega arith) (λ h. omega arith) (λ h. omega arith) (λ h. omega arith)
