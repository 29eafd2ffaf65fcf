use Rattle.world_laws.proofs.Found.{finds_consistent, finds_exact, finds_empty}
use Rattle.world_laws.proofs.laws.publications_find_exact.Goals as goal

pub returns-clause-consistent : goal.returns-clause-consistent
returns-clause-consistent c = finds_consistent

pub returns-clause-public : goal.returns-clause-public
returns-clause-public c = finds_exact

pub returns-clause-absent : goal.returns-clause-absent
returns-clause-absent c = finds_empty
