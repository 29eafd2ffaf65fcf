use Rattle.std.proofs.Common.{length}
use Rattle.row_write.proofs.same.+are_same_ops.Given as goal

abbrev pub decreases-are_same_ops : goal.decreases-are_same_ops
decreases-are_same_ops l = length l.a.now
