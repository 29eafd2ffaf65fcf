use Rattle.rollout.proofs.Accepted.{are_accepted}
use Rattle.rollout.proofs.laws.due_is_accepted.Goals as goal

pub returns : goal.returns
returns c = are_accepted
