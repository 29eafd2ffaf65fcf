use Rattle.row_map.proofs.RowsOf.{rows_checked}
use Rattle.row_map.proofs.laws.rows_are_checked.Goals as goal

pub returns : goal.returns
returns c = rows_checked
