use Rattle.replica.proofs.Accepted.{accepted_next, accepted_effect}
use Rattle.replica.proofs.laws.lemma_accepted_calls_repeat.Goals as goal

pub returns-clause-next : goal.returns-clause-next
returns-clause-next c = accepted_next

pub returns-clause-effect : goal.returns-clause-effect
returns-clause-effect c = accepted_effect
