use Rattle.std.specs.FinMap.{entries}
use Rattle.row_write.proofs.InOrder.{marked_row}
use Rattle.row_write.proofs.places.marked_row.Goals as goal

pub returns-clause-marked : goal.returns-clause-marked
returns-clause-marked c = marked_row (entries c.args.view.now) c.args.op.now c.args.columns.now c.args.at c.args.marks.now c.mark.new.marks c.requires.place c.mark.ensures
