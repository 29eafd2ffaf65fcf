use Rattle.std.proofs.Common.{◌≡◌, drop}
use Rattle.std.specs.Prelude.{max}
use Rattle.change_plan.specs.Schedule.{wait_out}
use Rattle.change_plan.proofs.numbers.wait_out.Given as goal

abbrev pub invariant-loop-change : goal.invariant-loop-change
invariant-loop-change l = max l.most (wait_out l.schema l.number (drop l.change-index l.changes)) ≡ wait_out l.schema l.number l.changes
