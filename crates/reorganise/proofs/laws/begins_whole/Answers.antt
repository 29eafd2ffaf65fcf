use Rattle.reorganise.proofs.Left.{all_left}
use Rattle.reorganise.proofs.laws.begins_whole.Goals as goal

pub returns : goal.returns
returns c = all_left
