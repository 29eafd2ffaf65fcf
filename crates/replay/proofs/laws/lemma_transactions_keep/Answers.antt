use Rattle.replay.proofs.Transaction.{outcomes_hold, txns_keep, refused_write_nothing}
use Rattle.replay.proofs.laws.lemma_transactions_keep.Goals as goal

pub returns-clause-outcome : goal.returns-clause-outcome
returns-clause-outcome c = outcomes_hold

pub returns-clause-done : goal.returns-clause-done
returns-clause-done c = txns_keep

pub returns-clause-refused : goal.returns-clause-refused
returns-clause-refused c = refused_write_nothing
