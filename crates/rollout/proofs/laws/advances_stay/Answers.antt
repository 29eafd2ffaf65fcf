use Rattle.rollout.proofs.Courses.{advances_stay}
use Rattle.rollout.proofs.laws.advances_stay.Goals as goal

pub returns : goal.returns
returns c = advances_stay
