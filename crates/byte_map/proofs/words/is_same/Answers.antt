use Rattle.byte_map.proofs.Numbers.{other_length}
use Rattle.byte_map.proofs.words.is_same.Goals as goal

pub returns-else-one-other : goal.returns-else-one-other
returns-else-one-other c = other_length c.args.one.now c.args.other.now c.if-one-other.false
