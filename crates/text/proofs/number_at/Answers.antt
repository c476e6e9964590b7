-- The first byte is a digit or there is no number, and the rest is what `digits_at` reads.
use Rattle.std.proofs.Common.{Some, None, sym, ◌∙◌, arith}
use Rattle.text.proofs.DigitLaws.{std_digit}
use Rattle.text.proofs.FieldLoops.{first_digit_short}
use Rattle.text.proofs.TokenLaws.{no_number, no_number_here, number_here}
use Rattle.text.proofs.number_at.Goals as goal

pub returns-in_err-get : goal.returns-in_err-get
returns-in_err-get c = c.from_residual.ensures ∙ no_number c.args.stop c.args.at c.args.bytes.now (omega (arith, c.in_err-get.ensures.lookup))

pub returns-in_err-b : goal.returns-in_err-b
returns-in_err-b c =
    c.from_residual-in_err-b.ensures
    ∙ no_number c.args.stop c.args.at c.args.bytes.now (omega (arith, c.in_ok-get.ensures.lookup.0.3, c.in_err-b.ensures.cases))

pub returns-then-not-is_ascii_digit : goal.returns-then-not-is_ascii_digit
returns-then-not-is_ascii_digit c =
    no_number_here c.args.stop c.args.at c.args.bytes.now _ _ c.in_ok-get.ensures.lookup.0.2 c.in_ok-b.ensures.cases.0
    (sym (c.if-not-is_ascii_digit.ensures.value ∙ std_digit _))

pub digits_at-requires : goal.digits_at-requires
digits_at-requires c =
    rw c.from.ensures (first_digit_short _ _ (sym (c.if-not-is_ascii_digit.ensures.value ∙ std_digit _)) c.digits_after.ensures)

pub returns-in_err-n : goal.returns-in_err-n
returns-in_err-n c =
    c.from_residual-in_err-n.ensures
    ∙ number_here c.args.stop c.args.at c.args.bytes.now _ _ c.in_ok-get.ensures.lookup.0.2 c.in_ok-b.ensures.cases.0
    (sym (c.if-not-is_ascii_digit.ensures.value ∙ std_digit _)) c.digits_after.ensures c.from.ensures None c.in_err-n.ensures.field tt

pub returns : goal.returns
returns c =
    number_here c.args.stop c.args.at c.args.bytes.now _ _ c.in_ok-get.ensures.lookup.0.2 c.in_ok-b.ensures.cases.0
    (sym (c.if-not-is_ascii_digit.ensures.value ∙ std_digit _)) c.digits_after.ensures c.from.ensures
    (Some (c.in_ok-n.n, c.in_ok-n.taken)) c.in_ok-n.ensures.field c.in_ok-n.ensures.within
