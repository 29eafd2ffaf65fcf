use Rattle.std.proofs.Common.{length}
use Rattle.drafts.proofs.step_records.+push_step_writes.Given as goal

abbrev pub decreases-push_step_writes : goal.decreases-push_step_writes
decreases-push_step_writes l = length l.step.now
