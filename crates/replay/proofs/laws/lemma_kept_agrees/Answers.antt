use Rattle.replay.proofs.Agree.{agrees}
use Rattle.replay.proofs.laws.lemma_kept_agrees.Goals as goal

pub returns : goal.returns
returns c = agrees
