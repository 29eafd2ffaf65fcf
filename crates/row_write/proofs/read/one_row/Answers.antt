use Rattle.std.proofs.Common.{◌∙◌, ap, sym, Bool}
use Rattle.std.specs.FinMap.{empty}
use Rattle.row_map.specs.Writes.{written}
use Rattle.row_write.specs.Plain.{row_of}
use Rattle.row_write.specs.inner.View.{cells_there}
use Rattle.row_write.proofs.Worked.{none_written}
use Rattle.row_write.proofs.read.one_row.Goals as goal

pub returns-then-not-there : goal.returns-then-not-there
returns-then-not-there c =
    c.new-rows.ensures ∙ sym (none_written (row_of c.args.op.now)) ∙ ap (λ (b : Bool). written empty (row_of c.args.op.now) (cells_there b c.args.cells)) (sym c.if-not-there.true)
