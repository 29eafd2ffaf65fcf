use Rattle.std.proofs.Common.{◌≡◌, drop}
use Rattle.std.specs.Prelude.{max}
use Rattle.change_plan.specs.Schedule.{wait_in}
use Rattle.change_plan.proofs.changes.wait_in.Given as goal

abbrev pub invariant-loop-name : goal.invariant-loop-name
invariant-loop-name l = max l.most (wait_in l.all l.table (drop l.name-index l.columns)) ≡ wait_in l.all l.table l.columns
