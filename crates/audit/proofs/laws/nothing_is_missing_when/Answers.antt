use Rattle.audit.proofs.Present.{nothing_missing}
use Rattle.audit.proofs.laws.nothing_is_missing_when.Goals as goal

pub returns : goal.returns
returns c = nothing_missing
