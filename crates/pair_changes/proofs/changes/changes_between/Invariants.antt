use Rattle.std.proofs.Common.{◌≡◌, ◌++◌, ◌+◌, length}
use Rattle.std.specs.FinMap as map
use Rattle.pair_changes.specs.inner.Walked.{walked}
use Rattle.pair_changes.proofs.changes.changes_between.Given as goal

-- what was found and what is left are all changes
abbrev pub invariant-loop-found : goal.invariant-loop-found
invariant-loop-found g l = l.changes ++ walked l.old l.new ≡ walked (map.entries (g.A.PairView.pairs l.before)) (map.entries (g.B.PairView.pairs l.after))

abbrev pub decreases-loop-found : goal.decreases-loop-found
decreases-loop-found g l = length l.old + length l.new
