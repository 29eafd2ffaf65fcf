use Rattle.std.proofs.Common.{List, subst, arith}
use Rattle.row_map.specs.Rows.{Rows}
use Rattle.row_write.specs.Prepare.{Encodes}
use Rattle.row_write.specs.declared.op.RowOp.{RowOp}
use Rattle.row_write.proofs.Ran.{only_one, prepared_for_all}
use Rattle.row_write.proofs.prepare_txn.work_out.Goals as goal

pub returns-clause-prepared : goal.returns-clause-prepared
returns-clause-prepared c =
    prepared_for_all c.args.schema.now c.lemma_served.ensures c.args.view.now c.args.ops.now c.in_ok-rows.rows c.in_ok-run.field-0.0 c.in_ok-run.field-0.1 c.in_ok-rows.ensures.found c.in_ok-run.ensures.reported c.in_ok-run.ensures.batch

pub returns-in-Some-clause-some_rows : goal.returns-in-Some-clause-some_rows
returns-in-Some-clause-some_rows c =
    subst (λ (ops : List RowOp). (rows : Rows) × Encodes c.args.schema.now ops c.args.view.now rows)
    (only_one c.args.ops.now c.op-item.result (omega (arith, c.in-len1.len_at_least)) (omega (arith, c.in-len1.len_below)) c.op-item.is)
    (rw c.in-Some.is at c.in_ok-done.ensures.some_rows)
