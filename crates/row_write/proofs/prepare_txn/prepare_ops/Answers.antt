use Rattle.std.proofs.lemmas.Result.{err_from_is_err_and, on_ok_weaker, IfErr-weaker}
use Rattle.row_write.proofs.Prepares.{first_refusal, mismatched, clear}
use Rattle.row_write.proofs.prepare_txn.prepare_ops.Goals as goal

pub returns-in_err-check_ops-clause-refused : goal.returns-in_err-check_ops-clause-refused
returns-in_err-check_ops-clause-refused c =
    let p = err_from_is_err_and c.from_residual.result c.from_residual.ensures.1 in
    rw (p.1, p.2) (first_refusal c.args.schema.now c.args.ops.now c.args.view.now c.in_err-check_ops.field-0.0 (c.in_err-check_ops.ensures.refused c.args.view.now))

pub returns-clause-clear : goal.returns-clause-clear
returns-clause-clear c =
    let sound = c.in_ok-check_ops.ensures.sound in
    on_ok_weaker c.work_out.result (λ some. clear c.args.schema.now c.lemma_served.ensures c.args.ops.now sound.0 c.args.view.now sound.1 some.0 some.1) c.work_out.ensures.some_rows

pub returns-clause-refused : goal.returns-clause-refused
returns-clause-refused c =
    let sound = c.in_ok-check_ops.ensures.sound in
    IfErr-weaker c.work_out.result _ _ (λ e. mismatched c.args.schema.now c.lemma_served.ensures c.args.ops.now sound.0 c.args.view.now sound.1 e) c.work_out.ensures.missed
