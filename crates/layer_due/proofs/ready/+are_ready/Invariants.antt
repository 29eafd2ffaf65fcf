use Rattle.std.proofs.Common.{length}
use Rattle.layer_due.proofs.ready.+are_ready.Given as goal

abbrev pub decreases-are_ready : goal.decreases-are_ready
decreases-are_ready l = length l.step.now
