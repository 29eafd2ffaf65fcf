use Rattle.std.proofs.Common.{◌≡◌, take}
use Rattle.std.specs.Prelude.{flat_map}
use Rattle.change_plan.specs.Schedule.{work_of_schedule}
use Rattle.change_plan.proofs.steps.work_at.Given as goal

abbrev pub invariant-loop-schedule : goal.invariant-loop-schedule
invariant-loop-schedule l = l.work.items ≡ flat_map (work_of_schedule l.time) (take l.schedule-index l.schedules)
