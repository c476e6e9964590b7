-- Three digits are a tenth's two and the last digit behind them.
use Rattle.std.proofs.Common.{arith}
use Rattle.text.proofs.SpelledLaws.{spelled_last}
use Rattle.text.proofs.PutLaws.{put_behind}
use Rattle.text.proofs.put_short.Goals as goal

pub returns-then-n-lt1000 : goal.returns-then-n-lt1000
returns-then-n-lt1000 c = rw (spelled_last c.args.n (omega arith)) (put_behind c.put_pair-third.ensures c.put_digit.ensures)
