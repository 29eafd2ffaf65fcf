use Rattle.replay.proofs.Openings.{lemma_begins_keep}
use Rattle.replay.proofs.laws.lemma_begins_keep.Goals as goal

pub returns : goal.returns
returns c = lemma_begins_keep
