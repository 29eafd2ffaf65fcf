use Rattle.std.proofs.Common.{◌≡◌, ◌++◌, drop}
use Rattle.row_query.specs.inner.Found.{cells_in}
use Rattle.row_page.proofs.read.cells.Given as goal

abbrev pub invariant-loop-column : goal.invariant-loop-column
invariant-loop-column g l = l.cells.items ++ cells_in (g.V.PairView.pairs l.view) l.table l.key (drop l.column-index l.columns) ≡ cells_in (g.V.PairView.pairs l.view) l.table l.key l.columns
