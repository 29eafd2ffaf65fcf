use Rattle.replica.proofs.Logs.{logs_repeat, logs_never_refused}
use Rattle.replica.proofs.laws.lemma_logs_repeat.Goals as goal

pub returns-clause-equal : goal.returns-clause-equal
returns-clause-equal c = logs_repeat

pub returns-clause-never_refused : goal.returns-clause-never_refused
returns-clause-never_refused c = logs_never_refused
