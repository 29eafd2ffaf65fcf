use Rattle.std.proofs.Common.{length}
use Rattle.drafts.proofs.step_records.+push_ends.Given as goal

abbrev pub decreases-push_ends : goal.decreases-push_ends
decreases-push_ends l = length l.bounds.now
