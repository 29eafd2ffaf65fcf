use Rattle.rollout.proofs.Way.{calls_go_on}
use Rattle.rollout.proofs.laws.calls_go_on.Goals as goal

pub returns : goal.returns
returns c = calls_go_on
