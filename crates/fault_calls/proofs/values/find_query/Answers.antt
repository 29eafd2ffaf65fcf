use Rattle.std.proofs.Common.{inl, inr, refl, subst}
use Rattle.std.proofs.lemmas.Result.{err_from_is_err_and}
use Rattle.schema_version.specs.Version.{Version}
use Rattle.fault_calls.specs.Faults.{FindsQuery}
use Rattle.fault_calls.proofs.values.find_query.Goals as goal

pub returns-in_err-query : goal.returns-in_err-query
returns-in_err-query c =
    let p = err_from_is_err_and c.from_residual-in_err-query.result c.from_residual-in_err-query.ensures.1 in
    let e = c.in_err-query.field-0.0 in
    rw (p.1, p.2) (inl (c.in_ok-schema.schema, c.in_ok-schema.ensures, inr (e, c.in_err-query.ensures, refl)))

pub returns : goal.returns
returns c = inl (c.in_ok-schema.schema, c.in_ok-schema.ensures, inl (c.in_ok-query.query, c.in_ok-query.ensures, subst (λ (v : Version). FindsQuery v c.in_ok-query.query c.found_in_query.result) c.get.ensures c.found_in_query.ensures))
