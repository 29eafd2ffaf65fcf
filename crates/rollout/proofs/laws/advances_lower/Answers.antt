use Rattle.rollout.proofs.Few.{advances_lower}
use Rattle.rollout.proofs.laws.advances_lower.Goals as goal

pub returns : goal.returns
returns c = advances_lower
