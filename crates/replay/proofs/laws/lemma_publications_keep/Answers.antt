use Rattle.replay.proofs.Publication.{lemma_publications_keep}
use Rattle.replay.proofs.laws.lemma_publications_keep.Goals as goal

pub returns : goal.returns
returns c = lemma_publications_keep
