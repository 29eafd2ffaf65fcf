use Rattle.std.proofs.Common.{length}
use Rattle.schema_tests.proofs.make.+reached.Given as goal

abbrev pub decreases-reached : goal.decreases-reached
decreases-reached l = length l.path.now
