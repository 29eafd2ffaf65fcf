use Rattle.checkpoint_check.proofs.Accepted.{kept_is_accepted, logs_are_accepted}
use Rattle.checkpoint_check.proofs.laws.logs_are_accepted.Goals as goal

pub returns-clause-kept : goal.returns-clause-kept
returns-clause-kept c = kept_is_accepted

pub returns-clause-logs : goal.returns-clause-logs
returns-clause-logs c = logs_are_accepted
