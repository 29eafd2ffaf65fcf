use Rattle.byte_map.proofs.Order.{told_same}
use Rattle.row_keys.proofs.are_four_zeros.Goals as goal

pub returns : goal.returns
returns c = told_same _ _ c.is_same.result c.is_same.ensures
