-- A number below ten is its digit, any other a tenth's digits and the last digit behind them.
use Rattle.text.proofs.SpelledLaws.{spelled_alone, spelled_last}
use Rattle.text.proofs.PutLaws.{put_behind}
use Rattle.text.proofs.+put_digits.Goals as goal

pub returns-then-n-lt10 : goal.returns-then-n-lt10
returns-then-n-lt10 t c = rw (spelled_alone c.args.n c.if-n-lt10.true) c.put_digit.ensures

pub returns-else-n-lt10 : goal.returns-else-n-lt10
returns-else-n-lt10 t c =
    rw (spelled_last c.args.n c.if-n-lt10.false) (put_behind c.put_digits-next.ensures c.put_digit-else-n-lt10.ensures)
