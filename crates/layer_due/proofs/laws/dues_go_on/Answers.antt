use Rattle.layer_due.proofs.Onward.{dues_go_on}
use Rattle.layer_due.proofs.laws.dues_go_on.Goals as goal

pub returns : goal.returns
returns c = dues_go_on
