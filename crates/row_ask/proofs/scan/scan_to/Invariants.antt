use Rattle.std.proofs.Common.{◌≡◌, ◌++◌, length}
use Rattle.row_map.specs.Walk.{key_range}
use Rattle.row_query.specs.inner.Found.{rows_at}
use Rattle.row_ask.proofs.scan.scan_to.Given as goal

-- the rows so far and those of the pairs that are left are all
abbrev pub invariant-loop-key : goal.invariant-loop-key
invariant-loop-key g l =
    l.rows.items ++ rows_at (g.V.PairView.pairs l.view) l.columns l.query l.walk
    ≡ rows_at (g.V.PairView.pairs l.view) l.columns l.query (key_range (g.V.PairView.pairs l.view) l.low l.high)

abbrev pub decreases-loop-key : goal.decreases-loop-key
decreases-loop-key g l = length l.walk
