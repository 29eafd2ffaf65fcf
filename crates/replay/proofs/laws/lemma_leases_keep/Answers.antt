use Rattle.replay.proofs.Time.{lease_kept}
use Rattle.replay.proofs.laws.lemma_leases_keep.Goals as goal

pub returns : goal.returns
returns c = lease_kept
