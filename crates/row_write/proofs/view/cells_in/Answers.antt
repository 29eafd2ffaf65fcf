use Rattle.std.proofs.Common.{get_or, subst, sym}
use Rattle.std.proofs.lemmas.Result.{err_from_is_err_and}
use Rattle.row_map.specs.declared.shape.ColumnType.TheVariants as kind
use Rattle.row_write.specs.inner.View.{IsCell}
use Rattle.row_write.proofs.InOrder.{held_at}
use Rattle.row_write.proofs.Viewed.{missed_map, cells_more, cell_there}
use Rattle.row_write.proofs.view.cells_in.Goals as goal

pub returns-in_err-cell-clause-missed : goal.returns-in_err-cell-clause-missed
returns-in_err-cell-clause-missed c =
    let p = err_from_is_err_and c.from_residual.result c.from_residual.ensures.1 in
    rw (p.1, p.2) (missed_map c.in_err-cell.field-0.0 (λ never visible held cells all.
    let x = cell_there c.args.there visible c.args.columns.now cells c.loop-i.i c.loop-i-test.true all in
    let is = held_at visible c.args.columns.now c.args.entries.now c.loop-i.i c.index-entries-i.result c.loop-i-test.true held c.index-entries-i.is in
    never x.0 (subst (λ s. IsCell (get_or c.args.columns.now c.loop-i.i (0, kind.Int)).1 c.args.there s x.0) is x.1)) c.in_err-cell.ensures.missed)

pub loop-i-preserved : goal.loop-i-preserved
loop-i-preserved c = λ visible held.
    let is = held_at visible c.args.columns.now c.args.entries.now c.loop-i.i c.index-entries-i.result c.loop-i-test.true held c.index-entries-i.is in
    cells_more c.args.there visible c.args.columns.now c.loop-i.cells.items c.push_cell.new.cells.items c.loop-i.i c.in_ok-cell.cell c.loop-i-test.true (c.loop-i.invariant visible held)
    (subst (λ s. IsCell (get_or c.args.columns.now c.loop-i.i (0, kind.Int)).1 c.args.there s c.in_ok-cell.cell) (sym is) c.in_ok-cell.ensures.found) c.in_ok-push_cell.ensures
