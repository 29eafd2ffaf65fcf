use Rattle.std.proofs.Common.{length}
use Rattle.schema_version.proofs.same.+are_same_moves.Given as goal

abbrev pub decreases-are_same_moves : goal.decreases-are_same_moves
decreases-are_same_moves l = length l.a.now
