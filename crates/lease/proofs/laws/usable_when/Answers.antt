use Rattle.lease.proofs.Uses.{usable_exactly}
use Rattle.lease.proofs.laws.usable_when.Goals as goal

pub returns : goal.returns
returns c = usable_exactly
