use Rattle.rollout.proofs.Courses.{courses_grow}
use Rattle.rollout.proofs.laws.courses_grow.Goals as goal

pub returns : goal.returns
returns c = courses_grow
