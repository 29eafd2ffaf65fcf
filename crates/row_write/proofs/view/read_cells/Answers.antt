use Rattle.std.proofs.lemmas.Result.{err_from_is_err_and}
use Rattle.row_write.specs.inner.View.{visible_at}
use Rattle.row_write.proofs.Viewed.{missed_map, cells_more, cell_there}
use Rattle.row_write.proofs.view.read_cells.Goals as goal

pub returns-in_err-cell-clause-missed : goal.returns-in_err-cell-clause-missed
returns-in_err-cell-clause-missed c =
    let p = err_from_is_err_and c.from_residual.result c.from_residual.ensures.1 in
    rw (p.1, p.2) (missed_map c.in_err-cell.field-0.0 (λ never cells all. let x = cell_there c.args.there (visible_at c.args.view.now c.args.op.now) c.args.columns.now cells c.loop-number.number-index c.loop-number-test.true all in never x.0 x.1) c.in_err-cell.ensures.missed)

pub loop-number-preserved : goal.loop-number-preserved
loop-number-preserved c =
    cells_more c.args.there (visible_at c.args.view.now c.args.op.now) c.args.columns.now c.loop-number.cells.items c.push_cell.new.cells.items c.loop-number.number-index c.in_ok-cell.cell c.loop-number-test.true c.loop-number.invariant c.in_ok-cell.ensures.found c.in_ok-push_cell.ensures
