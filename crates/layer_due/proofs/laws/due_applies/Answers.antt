use Rattle.layer_due.proofs.Applied.{due_applies}
use Rattle.layer_due.proofs.laws.due_applies.Goals as goal

pub returns : goal.returns
returns c = due_applies
