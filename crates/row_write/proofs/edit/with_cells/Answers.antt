use Rattle.row_write.proofs.Edited.{with_more}
use Rattle.row_write.proofs.edit.with_cells.Goals as goal

pub loop-number-preserved : goal.loop-number-preserved
loop-number-preserved c = with_more c.loop-number.next.items c.set_cell.new.cells.items c.args.named.now c.loop-number.number-index c.loop-number-item.result _ c.loop-number-test.true c.loop-number-item.is c.in_ok-set_cell.ensures c.loop-number.invariant
