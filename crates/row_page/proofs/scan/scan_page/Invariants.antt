use Rattle.std.proofs.Common.{◌≡◌, ◌≤◌, ◌++◌, length}
use Rattle.row_map.specs.Walk.{key_range}
use Rattle.row_query.specs.inner.Found.{rows_at}
use Rattle.row_page.proofs.scan.scan_page.Given as goal

-- the rows so far and those of the pairs that are left are all, and they are no more than the page holds
abbrev pub invariant-loop-key : goal.invariant-loop-key
invariant-loop-key g l = record {
  all :
      l.rows.items ++ rows_at (g.V.PairView.pairs l.view) l.columns l.query l.walk
      ≡ rows_at (g.V.PairView.pairs l.view) l.columns l.query (key_range (g.V.PairView.pairs l.view) l.low l.high);
  few : length l.rows.items ≤ l.limit;
}

abbrev pub decreases-loop-key : goal.decreases-loop-key
decreases-loop-key g l = length l.walk
