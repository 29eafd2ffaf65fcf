use Rattle.std.proofs.Common.{length}
use Rattle.drafts.proofs.bounds.+first_unfit.Given as goal

abbrev pub decreases-first_unfit : goal.decreases-first_unfit
decreases-first_unfit l = length l.keys.now
