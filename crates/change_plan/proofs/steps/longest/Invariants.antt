use Rattle.std.proofs.Common.{◌≡◌, drop}
use Rattle.std.specs.Prelude.{max}
use Rattle.change_plan.specs.Schedule.{longest}
use Rattle.change_plan.proofs.steps.longest.Given as goal

abbrev pub invariant-loop-schedule : goal.invariant-loop-schedule
invariant-loop-schedule l = max l.most (longest (drop l.schedule-index l.schedules)) ≡ longest l.schedules
