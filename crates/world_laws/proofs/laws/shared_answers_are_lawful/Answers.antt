use Rattle.world_laws.proofs.Shared.{shared_commits_recent, shared_queries_recent, shared_snapshots_recent, shared_snapshots_answer, shared_snapshot_checks_clean, shared_checks_clean, shared_publications_consistent, shared_publications_exact, shared_publications_empty}
use Rattle.world_laws.proofs.laws.shared_answers_are_lawful.Goals as goal

pub returns-clause-commits : goal.returns-clause-commits
returns-clause-commits c = shared_commits_recent

pub returns-clause-queries : goal.returns-clause-queries
returns-clause-queries c = shared_queries_recent

pub returns-clause-snapshots : goal.returns-clause-snapshots
returns-clause-snapshots c = shared_snapshots_recent

pub returns-clause-answers : goal.returns-clause-answers
returns-clause-answers c = shared_snapshots_answer

pub returns-clause-snapshot_checks : goal.returns-clause-snapshot_checks
returns-clause-snapshot_checks c = shared_snapshot_checks_clean

pub returns-clause-checks : goal.returns-clause-checks
returns-clause-checks c = shared_checks_clean

pub returns-clause-consistent : goal.returns-clause-consistent
returns-clause-consistent c = shared_publications_consistent

pub returns-clause-public : goal.returns-clause-public
returns-clause-public c = shared_publications_exact

pub returns-clause-absent : goal.returns-clause-absent
returns-clause-absent c = shared_publications_empty
