use Rattle.world_laws.proofs.Snapshots.{answer_their_log, answer_as_queries, check_their_log, snapshots_recent}
use Rattle.world_laws.proofs.laws.snapshots_answer_their_log.Goals as goal

pub returns-clause-found : goal.returns-clause-found
returns-clause-found c = answer_their_log

pub returns-clause-answers : goal.returns-clause-answers
returns-clause-answers c = answer_as_queries

pub returns-clause-checks : goal.returns-clause-checks
returns-clause-checks c = check_their_log

pub returns-clause-recent : goal.returns-clause-recent
returns-clause-recent c = snapshots_recent
