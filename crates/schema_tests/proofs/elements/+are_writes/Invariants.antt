use Rattle.std.proofs.Common.{length}
use Rattle.schema_tests.proofs.elements.+are_writes.Given as goal

abbrev pub decreases-are_writes : goal.decreases-are_writes
decreases-are_writes l = length l.writes.now
