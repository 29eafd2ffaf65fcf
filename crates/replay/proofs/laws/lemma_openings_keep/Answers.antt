use Rattle.replay.proofs.Time.{opened_kept}
use Rattle.replay.proofs.laws.lemma_openings_keep.Goals as goal

pub returns : goal.returns
returns c = opened_kept
