use Rattle.std.proofs.Common.{◌≡◌, ◌++◌, drop}
use Rattle.row_query.specs.inner.Found.{rows_in}
use Rattle.row_ask.proofs.rows_by_key.rows_by_keys.Given as goal

abbrev pub invariant-loop-key : goal.invariant-loop-key
invariant-loop-key g l = l.rows.items ++ rows_in (g.V.PairView.pairs l.view) l.columns l.query (drop l.key-index l.keys) ≡ rows_in (g.V.PairView.pairs l.view) l.columns l.query l.keys
