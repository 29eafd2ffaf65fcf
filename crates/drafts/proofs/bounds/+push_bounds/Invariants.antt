use Rattle.std.proofs.Common.{length}
use Rattle.drafts.proofs.bounds.+push_bounds.Given as goal

abbrev pub decreases-push_bounds : goal.decreases-push_bounds
decreases-push_bounds l = length l.keys.now
