use Rattle.replica.proofs.Logs.{repeats_equal}
use Rattle.replica.proofs.laws.lemma_worlds_are_their_logs.Goals as goal

pub returns-clause-repeats : goal.returns-clause-repeats
returns-clause-repeats c = repeats_equal
