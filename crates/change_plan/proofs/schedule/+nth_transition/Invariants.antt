use Rattle.std.proofs.Common.{length}
use Rattle.change_plan.proofs.schedule.+nth_transition.Given as goal

abbrev pub decreases-nth_transition : goal.decreases-nth_transition
decreases-nth_transition l = length l.transitions.now
