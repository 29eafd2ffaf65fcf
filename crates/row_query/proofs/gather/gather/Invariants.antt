use Rattle.std.proofs.Common.{◌≡◌, length, []}
use Rattle.row_query.specs.inner.Bounds.{low_bound, high_bound, gathered}
use Rattle.row_map.specs.Walk.{key_range}
use Rattle.row_query.proofs.gather.gather.Given as goal

-- the keys so far, with those of the pairs that are left, are all
abbrev pub invariant-loop-bytes : goal.invariant-loop-bytes
invariant-loop-bytes g l = gathered l.number l.width l.keys.keys l.walk ≡ gathered l.number l.width [] (key_range (g.V.PairView.pairs l.view) (low_bound l.number l.condition) (high_bound l.number l.condition))

abbrev pub decreases-loop-bytes : goal.decreases-loop-bytes
decreases-loop-bytes g l = length l.walk
