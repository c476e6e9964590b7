-- The digits are written, and the byte that ends the field behind them.
use Rattle.text.proofs.PutLaws.{put_behind}
use Rattle.text.proofs.put_number.Goals as goal

pub returns : goal.returns
returns c = put_behind c.put_short-next.ensures c.put_byte.ensures
