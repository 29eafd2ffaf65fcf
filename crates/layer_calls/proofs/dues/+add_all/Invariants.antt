use Rattle.std.proofs.Common.{length}
use Rattle.layer_calls.proofs.dues.+add_all.Given as goal

abbrev pub decreases-add_all : goal.decreases-add_all
decreases-add_all l = length l.pairs.now
