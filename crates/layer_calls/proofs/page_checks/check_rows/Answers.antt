use Rattle.std.proofs.Common.{inl, inr, refl, subst}
use Rattle.std.proofs.lemmas.Result.{err_from_is_err_and}
use Rattle.schema_version.specs.Version.{Version}
use Rattle.layer_calls.specs.PageChecks.{PageRows}
use Rattle.layer_calls.proofs.page_checks.check_rows.Goals as goal

pub returns-in_err-view : goal.returns-in_err-view
returns-in_err-view c =
    let p = err_from_is_err_and c.from_residual-in_err-view.result c.from_residual-in_err-view.ensures.1 in
    let e = c.in_err-view.field-0.0 in
    rw (p.1, p.2) (inl (c.in_ok-schema.schema, c.in_ok-schema.ensures, inr (e, c.in_err-view.ensures, refl)))

pub returns : goal.returns
returns c = inl (c.in_ok-schema.schema, c.in_ok-schema.ensures, inl (c.in_ok-view.view, c.in_ok-view.ensures, subst (λ (v : Version). PageRows v c.args.low.now c.args.to.now c.in_ok-view.view c.page_rows.result) c.get.ensures c.page_rows.ensures))
