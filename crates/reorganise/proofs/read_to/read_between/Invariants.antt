use Rattle.std.proofs.Common.{length}
use Rattle.reorganise.proofs.ReadTo.{IsCopied}
use Rattle.reorganise.proofs.read_to.read_between.Given as goal

abbrev pub invariant-loop-key : goal.invariant-loop-key
invariant-loop-key g l = IsCopied (g.V.PairView.pairs l.view) l.low l.high l.pairs l.walk

abbrev pub decreases-loop-key : goal.decreases-loop-key
decreases-loop-key g l = length l.walk
