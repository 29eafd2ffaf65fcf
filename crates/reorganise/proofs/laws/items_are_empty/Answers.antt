use Rattle.reorganise.proofs.Emptying.{items_empty}
use Rattle.reorganise.proofs.laws.items_are_empty.Goals as goal

pub returns : goal.returns
returns c = items_empty
