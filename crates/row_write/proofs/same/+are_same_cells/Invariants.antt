use Rattle.std.proofs.Common.{length}
use Rattle.row_write.proofs.same.+are_same_cells.Given as goal

abbrev pub decreases-are_same_cells : goal.decreases-are_same_cells
decreases-are_same_cells l = length l.a.now
