use Rattle.std.proofs.Common.{◌≡◌, drop}
use Rattle.row_write.specs.Plain.{with_cells}
use Rattle.row_write.specs.inner.Run.{cells_in}
use Rattle.row_write.proofs.edit.with_cells.Given as goal

abbrev pub invariant-loop-number : goal.invariant-loop-number
invariant-loop-number l = with_cells (cells_in l.next.items) (drop l.number-index l.named) ≡ with_cells (cells_in l.initial.next.items) l.named
