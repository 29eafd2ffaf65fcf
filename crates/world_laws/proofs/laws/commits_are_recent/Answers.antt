use Rattle.world_laws.proofs.Recent.{commits_recent, queries_recent}
use Rattle.world_laws.proofs.laws.commits_are_recent.Goals as goal

pub returns-clause-commits : goal.returns-clause-commits
returns-clause-commits c = commits_recent

pub returns-clause-queries : goal.returns-clause-queries
returns-clause-queries c = queries_recent
