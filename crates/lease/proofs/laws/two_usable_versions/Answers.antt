use Rattle.lease.proofs.Uses.{usable_last}
use Rattle.lease.proofs.laws.two_usable_versions.Goals as goal

pub returns : goal.returns
returns c = usable_last
