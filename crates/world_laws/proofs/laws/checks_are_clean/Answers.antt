use Rattle.world_laws.proofs.Clean.{checks_clean}
use Rattle.world_laws.proofs.laws.checks_are_clean.Goals as goal

pub returns : goal.returns
returns c = checks_clean
