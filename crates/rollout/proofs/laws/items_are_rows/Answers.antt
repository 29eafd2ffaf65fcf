use Rattle.rollout.proofs.RowItems.{items_are_rows}
use Rattle.rollout.proofs.laws.items_are_rows.Goals as goal

pub returns : goal.returns
returns c = items_are_rows
