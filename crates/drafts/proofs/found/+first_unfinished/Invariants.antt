use Rattle.std.proofs.Common.{length}
use Rattle.drafts.proofs.found.+first_unfinished.Given as goal

abbrev pub decreases-first_unfinished : goal.decreases-first_unfinished
decreases-first_unfinished l = length l.step.now
