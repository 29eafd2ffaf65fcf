use Rattle.keycode.proofs.ByteOrder.{codes_order}
use Rattle.keycode.proofs.laws.encodings_keep_order.Goals as goal

pub returns : goal.returns
returns c = codes_order
