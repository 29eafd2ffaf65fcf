use Rattle.std.proofs.Common.{length}
use Rattle.layer_calls.proofs.changes.+push_reorgs.Given as goal

abbrev pub decreases-push_reorgs : goal.decreases-push_reorgs
decreases-push_reorgs l = length l.pairs.now
