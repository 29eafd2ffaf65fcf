use Rattle.std.proofs.Common.{inl, inr, refl, subst, List}
use Rattle.std.proofs.lemmas.Result.{err_from_is_err_and}
use Rattle.drafts.specs.declared.record.Reorg.{Reorg}
use Rattle.layer_calls.specs.Changes.{newest_of, Publishes}
use Rattle.layer_calls.proofs.changes.publish.Goals as goal

pub returns-in_err-step : goal.returns-in_err-step
returns-in_err-step c =
    let p = err_from_is_err_and c.from_residual-in_err-step.result c.from_residual-in_err-step.ensures.1 in
    let e = c.in_err-step.field-0.0 in
    rw (p.1, p.2) (inl (c.in_ok-schema.schema, c.in_ok-schema.ensures, inr (e, c.in_err-step.ensures, refl)))

pub returns-in_err-found : goal.returns-in_err-found
returns-in_err-found c =
    let p = err_from_is_err_and c.from_residual-in_err-found.result c.from_residual-in_err-found.ensures.1 in
    let e = c.in_err-found.field-0.0 in
    rw (p.1, p.2) (inl (c.in_ok-schema.schema, c.in_ok-schema.ensures, inl (c.in_ok-step.step, c.in_ok-step.ensures, inr (e, c.in_err-found.ensures, refl))))

pub returns : goal.returns
returns c = inl (c.in_ok-schema.schema, c.in_ok-schema.ensures, inl (c.in_ok-step.step, c.in_ok-step.ensures, inl (c.in_ok-found.found, c.in_ok-found.ensures, subst (λ (found : List Reorg). Publishes (newest_of c.args.before c.in_ok-schema.schema) c.in_ok-step.step found c.publish_step.result) c.as_slice.ensures c.publish_step.ensures)))
