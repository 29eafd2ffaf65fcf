use Rattle.std.proofs.Common.{◌≡◌}
use Rattle.row_query.specs.inner.Found.{rows_in}
use Rattle.row_query.proofs.gather.walk_index.Given as goal

abbrev pub invariant-loop-key : goal.invariant-loop-key
invariant-loop-key g l = l.rows.items ≡ rows_in (g.V.PairView.pairs l.view) l.columns l.query l.yielded
