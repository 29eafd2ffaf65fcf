use Rattle.std.proofs.Common.{◌≡◌, ◌++◌, take, drop}
use Rattle.change_plan.specs.Schedule.{schedules_from, schedules}
use Rattle.change_plan.proofs.numbers.schedules_of.Given as goal

abbrev pub invariant-loop-i : goal.invariant-loop-i
invariant-loop-i l = l.schedules.items ++ schedules_from l.schema l.changes (take l.i l.changes) (drop l.i l.changes) ≡ schedules l.schema l.changes
