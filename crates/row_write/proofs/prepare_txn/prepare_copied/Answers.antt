use Rattle.std.proofs.Common.{List, subst}
use Rattle.row_map.specs.Rows.{Rows}
use Rattle.row_write.specs.declared.op.RowOp.{RowOp}
use Rattle.row_write.specs.Prepare.{Encodes}
use Rattle.row_write.proofs.prepare_txn.prepare_copied.Goals as goal

pub returns-clause-some_rows : goal.returns-clause-some_rows
returns-clause-some_rows c = subst (λ (ops : List RowOp). (rows : Rows) × Encodes c.args.schema.now ops c.args.view.now rows) c.as_slice.ensures c.in_ok-reported.ensures.some_rows
