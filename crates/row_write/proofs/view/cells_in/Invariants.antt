use Rattle.std.proofs.Common.{take}
use Rattle.row_write.specs.inner.View.{AreHeld, AreCells}
use Rattle.row_write.proofs.view.cells_in.Given as goal

abbrev pub invariant-loop-i : goal.invariant-loop-i
invariant-loop-i l = (visible : _) → AreHeld visible l.columns l.entries → AreCells l.there visible (take l.i l.columns) l.cells.items
