use Rattle.script_replies.proofs.Cells.{cell_reported}
use Rattle.script_replies.proofs.rows.push_cell.Goals as goal

pub returns : goal.returns
returns c =
    cell_reported _ _ _ _ _ c.args.row.now c.args.column.now _ _ c.in_ok-push_str.ensures.bytes c.in_ok-push_str-2.ensures.bytes c.in_ok-push_found.ensures c.as_str.ensures.value c.find_cell-cell.ensures c.as_slice.ensures
