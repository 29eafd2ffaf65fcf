use Rattle.std.proofs.Common.{length}
use Rattle.schema_tests.proofs.plans.+are_moves.Given as goal

abbrev pub decreases-are_moves : goal.decreases-are_moves
decreases-are_moves l = length l.got.now
