use Rattle.std.proofs.Common.{◌≡◌, length}
use Rattle.audit.specs.inner.RowCounts.{AllStrings, added, tally}
use Rattle.audit.specs.inner.Met.{ArePresent, IsThere}
use Rattle.audit.proofs.tally.tally_walk.Given as goal

-- what was counted and what is left are all; what is left are pairs of the store, and the row that was met last is there; what was walked over are strings of bytes
abbrev pub invariant-loop-pair : goal.invariant-loop-pair
invariant-loop-pair g l = record {
  counted : added l.counts (tally l.schema (g.V.PairView.pairs l.view) l.walk) ≡ tally l.schema (g.V.PairView.pairs l.view) l.fn.ahead;
  present : ArePresent (g.V.PairView.pairs l.view) l.walk;
  there : IsThere (g.V.PairView.pairs l.view) l.last;
  strings : AllStrings l.walk → AllStrings l.fn.ahead;
}

abbrev pub decreases-loop-pair : goal.decreases-loop-pair
decreases-loop-pair g l = length l.walk
