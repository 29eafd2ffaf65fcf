use Rattle.std.proofs.Common.{inl, inr, refl, subst, List}
use Rattle.std.proofs.lemmas.Result.{err_from_is_err_and}
use Rattle.schema_version.specs.Version.{Version}
use Rattle.row_write.specs.declared.op.RowOp.{RowOp}
use Rattle.fault_calls.specs.Faults.{FindsTxn}
use Rattle.fault_calls.proofs.values.find_txn.Goals as goal

pub returns-in_err-ops : goal.returns-in_err-ops
returns-in_err-ops c =
    let p = err_from_is_err_and c.from_residual-in_err-ops.result c.from_residual-in_err-ops.ensures.1 in
    let e = c.in_err-ops.field-0.0 in
    rw (p.1, p.2) (inl (c.in_ok-schema.schema, c.in_ok-schema.ensures, inr (e, c.in_err-ops.ensures, refl)))

pub returns : goal.returns
returns c = inl (c.in_ok-schema.schema, c.in_ok-schema.ensures, inl (c.in_ok-ops.ops, c.in_ok-ops.ensures, subst (λ (v : Version). FindsTxn v c.in_ok-ops.ops c.found_in_ops.result) c.get.ensures (subst (λ (ops : List RowOp). FindsTxn c.get.result.now ops c.found_in_ops.result) c.as_slice.ensures c.found_in_ops.ensures)))
