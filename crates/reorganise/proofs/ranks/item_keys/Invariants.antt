use Rattle.std.proofs.Common.{◌≡◌, ◌++◌, length}
use Rattle.reorganise.specs.ScanRanges.{item_keys, items}
use Rattle.reorganise.proofs.ranks.item_keys.Given as goal

-- the keys so far and those of the pairs that are left are all
abbrev pub invariant-loop-key : goal.invariant-loop-key
invariant-loop-key g l = l.keys.items ++ item_keys l.scan_range l.walk ≡ items l.scan_range (g.V.PairView.pairs l.view)

abbrev pub decreases-loop-key : goal.decreases-loop-key
decreases-loop-key g l = length l.walk
