use Rattle.std.proofs.Common.{length}
use Rattle.layer_due.proofs.records.+first_open.Given as goal

abbrev pub decreases-first_open : goal.decreases-first_open
decreases-first_open l = length l.bounds.now
