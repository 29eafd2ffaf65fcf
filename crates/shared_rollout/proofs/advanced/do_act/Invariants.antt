use Rattle.std.proofs.Common.{◌-◌, ◌≤◌}
use Rattle.shared_rollout.specs.Operator.{WereOvertaken}
use Rattle.shared_rollout.proofs.Acts.{IsStill}
use Rattle.shared_rollout.proofs.advanced.do_act.Given as goal

abbrev pub invariant-loop-failed : goal.invariant-loop-failed
invariant-loop-failed g l = IsStill l.fn.me l.me × (l.failed ≤ l.ask.tries) × WereOvertaken g.L.SharedLedger.start l.ask l.failed

abbrev pub decreases-loop-failed : goal.decreases-loop-failed
decreases-loop-failed g l = l.ask.tries - l.failed
