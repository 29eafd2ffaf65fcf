use Rattle.std.proofs.Common.{inl, inr, refl, subst, List}
use Rattle.std.proofs.lemmas.Result.{err_from_is_err_and}
use Rattle.schema_version.specs.Version.{Version}
use Rattle.row_write.specs.declared.op.RowOp.{RowOp}
use Rattle.layer_calls.specs.Txns.{Wants}
use Rattle.layer_calls.proofs.txns.reads.Goals as goal

pub returns-in_err-ops : goal.returns-in_err-ops
returns-in_err-ops c =
    let p = err_from_is_err_and c.from_residual-in_err-ops.result c.from_residual-in_err-ops.ensures.1 in
    let e = c.in_err-ops.field-0.0 in
    rw (p.1, p.2) (inl (c.in_ok-schema.schema, c.in_ok-schema.ensures, inr (e, c.in_err-ops.ensures, refl)))

pub returns : goal.returns
returns c = inl (c.in_ok-schema.schema, c.in_ok-schema.ensures, inl (c.in_ok-ops.ops, c.in_ok-ops.ensures, subst (λ (v : Version). Wants v c.in_ok-ops.ops c.reads_reply.result) c.get.ensures (subst (λ (ops : List RowOp). Wants c.get.result.now ops c.reads_reply.result) c.as_slice.ensures c.reads_reply.ensures)))
