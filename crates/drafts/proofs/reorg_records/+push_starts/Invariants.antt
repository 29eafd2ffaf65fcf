use Rattle.std.proofs.Common.{length}
use Rattle.drafts.proofs.reorg_records.+push_starts.Given as goal

abbrev pub decreases-push_starts : goal.decreases-push_starts
decreases-push_starts l = length l.bounds.now
