use Rattle.std.proofs.Common.{◌≡◌, drop}
use Rattle.std.specs.Prelude.{max}
use Rattle.change_plan.specs.Schedule.{steps_until}
use Rattle.change_plan.proofs.changes.steps_until.Given as goal

abbrev pub invariant-loop-change : goal.invariant-loop-change
invariant-loop-change l = max l.most (steps_until l.table l.name (drop l.change-index l.changes)) ≡ steps_until l.table l.name l.changes
