use Rattle.std.proofs.Common.{length}
use Rattle.row_write.proofs.same.+are_same_values.Given as goal

abbrev pub decreases-are_same_values : goal.decreases-are_same_values
decreases-are_same_values l = length l.a.now
