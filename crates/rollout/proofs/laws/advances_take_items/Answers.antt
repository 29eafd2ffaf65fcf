use Rattle.rollout.proofs.NoMore.{advances_take_items}
use Rattle.rollout.proofs.laws.advances_take_items.Goals as goal

pub returns : goal.returns
returns c = advances_take_items
