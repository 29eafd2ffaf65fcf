use Rattle.std.proofs.Common.{length}
use Rattle.drafts.proofs.step_records.+push_step_reads.Given as goal

abbrev pub decreases-push_step_reads : goal.decreases-push_step_reads
decreases-push_step_reads l = length l.step.now
