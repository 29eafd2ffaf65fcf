use Rattle.change_plan.proofs.Room.{planned_least}
use Rattle.change_plan.proofs.laws.plans_are_least.Goals as goal

pub returns : goal.returns
returns c = λ old changes sound plannable. planned_least old sound changes plannable
