use Rattle.audit.proofs.Reasons.{nothing_extra}
use Rattle.audit.proofs.laws.nothing_is_extra_when.Goals as goal

pub returns : goal.returns
returns c = nothing_extra
