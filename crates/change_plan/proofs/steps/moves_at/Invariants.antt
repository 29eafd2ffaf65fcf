use Rattle.std.proofs.Common.{◌≡◌, take}
use Rattle.std.specs.Prelude.{flat_map}
use Rattle.change_plan.specs.Schedule.{move_of}
use Rattle.change_plan.proofs.steps.moves_at.Given as goal

abbrev pub invariant-loop-schedule : goal.invariant-loop-schedule
invariant-loop-schedule l = l.moves.items ≡ flat_map (move_of l.time) (take l.schedule-index l.schedules)
