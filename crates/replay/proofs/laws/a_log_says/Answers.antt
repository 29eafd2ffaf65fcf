use Rattle.replay.proofs.Worked.{a_log_says, a_log_follows}
use Rattle.replay.proofs.laws.a_log_says.Goals as goal

pub returns-clause-says : goal.returns-clause-says
returns-clause-says c = a_log_says

pub returns-clause-follows : goal.returns-clause-follows
returns-clause-follows c = a_log_follows
