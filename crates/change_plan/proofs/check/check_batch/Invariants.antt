use Rattle.std.proofs.Common.{◌≡◌, [], take, drop}
use Rattle.change_plan.specs.inner.Checks.{changes_check}
use Rattle.change_plan.proofs.check.check_batch.Given as goal

abbrev pub invariant-loop-i : goal.invariant-loop-i
invariant-loop-i l = changes_check l.schema l.changes (take l.i l.changes) (drop l.i l.changes) ≡ changes_check l.schema l.changes [] l.changes
