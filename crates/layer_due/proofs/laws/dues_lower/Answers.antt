use Rattle.layer_due.proofs.Lowered.{dues_lower}
use Rattle.layer_due.proofs.laws.dues_lower.Goals as goal

pub returns : goal.returns
returns c = dues_lower
