use Rattle.layer_due.proofs.Courses.{courses_complete}
use Rattle.layer_due.proofs.laws.courses_complete.Goals as goal

pub returns : goal.returns
returns c = courses_complete
