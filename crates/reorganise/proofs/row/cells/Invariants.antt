use Rattle.std.proofs.Common.{◌≡◌, ◌++◌, drop}
use Rattle.reorganise.specs.Batches.{cells_in}
use Rattle.reorganise.proofs.row.cells.Given as goal

abbrev pub invariant-loop-column : goal.invariant-loop-column
invariant-loop-column l = l.cells.items ++ cells_in l.pairs l.table l.key (drop l.column-index l.columns) ≡ cells_in l.pairs l.table l.key l.columns
