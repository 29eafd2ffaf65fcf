use Rattle.std.proofs.Common.{◌≡◌}
use Rattle.change_plan.specs.Schedule.{steps_from}
use Rattle.change_plan.proofs.steps.steps_of.Given as goal

abbrev pub invariant-loop-time : goal.invariant-loop-time
invariant-loop-time l = l.steps.items ≡ steps_from l.schedules 0 l.time
