use Rattle.std.proofs.Common.{length}
use Rattle.reorganise.proofs.KeyRanges.{IsUnderway}
use Rattle.reorganise.proofs.read.read_key_range.Given as goal

abbrev pub invariant-loop-key : goal.invariant-loop-key
invariant-loop-key g l = IsUnderway l.scan_range (g.V.PairView.pairs l.view) l.cursor l.high l.limit l.left l.pairs l.walk

abbrev pub decreases-loop-key : goal.decreases-loop-key
decreases-loop-key g l = length l.walk
