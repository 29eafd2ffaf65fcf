use Rattle.std.proofs.Common.{take}
use Rattle.row_write.specs.inner.View.{AreCells, visible_at}
use Rattle.row_write.proofs.view.read_cells.Given as goal

abbrev pub invariant-loop-number : goal.invariant-loop-number
invariant-loop-number l = AreCells l.there (visible_at l.view l.op) (take l.number-index l.columns) l.cells.items
