-- One digit below ten, else a digit more than a tenth has.
use Rattle.std.proofs.Common.{◌≡◌, [], ◌∷◌, ℕ, ◌+◌, ◌/◌, ◌%◌, ◌≤◌, length, length-append, sym, ap, ◌∙◌, arith}
use Rattle.text.specs.Bytes.{digit}
use Rattle.text.specs.Numbers.{spelled}
use Rattle.text.proofs.SpelledLaws.{spelled_alone, spelled_last, digits_few}
use Rattle.text.proofs.+digits.Goals as goal

pub returns-then-n-lt10-clause-spelt : goal.returns-then-n-lt10-clause-spelt
returns-then-n-lt10-clause-spelt t c = ap length (sym (spelled_alone c.args.n c.if-n-lt10.true))

one_more : (n k : ℕ) → 10 ≤ n → k ≡ length (spelled (n / 10)) → k + 1 ≡ length (spelled n)
one_more n k h e =
    ap (λ (x : ℕ). x + 1) e
    ∙ sym (ap length (spelled_last n h) ∙ length-append (spelled (n / 10)) (digit (n % 10) ∷ []))

pub returns-else-n-lt10-clause-spelt : goal.returns-else-n-lt10-clause-spelt
returns-else-n-lt10-clause-spelt t c = one_more c.args.n c.digits.result c.if-n-lt10.false c.digits.ensures.spelt

pub returns-else-n-lt10-clause-few : goal.returns-else-n-lt10-clause-few
returns-else-n-lt10-clause-few t c =
    omega (arith, one_more c.args.n c.digits.result c.if-n-lt10.false c.digits.ensures.spelt, digits_few c.args.n c.ranges.n.fits)
