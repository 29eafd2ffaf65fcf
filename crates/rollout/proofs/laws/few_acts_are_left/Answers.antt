use Rattle.rollout.proofs.Few.{are_few_left}
use Rattle.rollout.proofs.laws.few_acts_are_left.Goals as goal

pub returns : goal.returns
returns c = are_few_left
