use Rattle.std.proofs.Common.{length}
use Rattle.schema_tests.proofs.plans.+are_steps.Given as goal

abbrev pub decreases-are_steps : goal.decreases-are_steps
decreases-are_steps l = length l.got.now
