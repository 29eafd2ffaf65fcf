use Rattle.std.proofs.Common.{length}
use Rattle.drafts.proofs.step_records.+push_removals.Given as goal

abbrev pub decreases-push_removals : goal.decreases-push_removals
decreases-push_removals l = length l.bounds.now
