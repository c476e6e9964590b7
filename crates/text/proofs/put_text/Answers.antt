-- The keyword is written, and the byte that ends the field behind it.
use Rattle.text.proofs.PutLaws.{put_behind}
use Rattle.text.proofs.put_text.Goals as goal

pub returns : goal.returns
returns c = put_behind c.put_bytes-next.ensures c.put_byte.ensures
