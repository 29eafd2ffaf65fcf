use Rattle.keycode.proofs.ByteOrder.{same_encoding}
use Rattle.keycode.proofs.laws.one_encoding.Goals as goal

pub returns : goal.returns
returns c = same_encoding
