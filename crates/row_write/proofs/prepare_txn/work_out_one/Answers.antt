use Rattle.std.proofs.Common.{◌∷◌, []}
use Rattle.row_write.proofs.Ran.{prepared_for_all}
use Rattle.row_write.proofs.prepare_txn.work_out_one.Goals as goal

pub returns-clause-prepared : goal.returns-clause-prepared
returns-clause-prepared c =
    prepared_for_all c.args.schema.now c.lemma_served.ensures c.args.view.now (c.args.op.now ∷ []) _ c.in_ok-run_one.field-0.0 c.in_ok-run_one.field-0.1 (rw c.in-Some.is at c.in_ok-row.ensures.found) c.in_ok-run_one.ensures.reported c.in_ok-run_one.ensures.batch

pub returns-clause-some_rows : goal.returns-clause-some_rows
returns-clause-some_rows c = (_, rw c.in-Some.is at c.in_ok-row.ensures.found)
