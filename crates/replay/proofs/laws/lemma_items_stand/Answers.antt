use Rattle.replay.proofs.Standing.{lemma_items_stand}
use Rattle.replay.proofs.laws.lemma_items_stand.Goals as goal

pub returns : goal.returns
returns c = lemma_items_stand
