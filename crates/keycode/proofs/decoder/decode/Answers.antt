use Rattle.std.proofs.Common.{subst, arith}
use Rattle.std.proofs.lemmas.Result.{err_from_is_err_and}
use Rattle.keycode.specs.Read.{Fails}
use Rattle.keycode.proofs.Lists.{prefix_read, prefix_again, prefix_only, Fails-ok}
use Rattle.keycode.proofs.decoder.decode.Goals as goal

pub returns-in_err-values-clause-only : goal.returns-in_err-values-clause-only
returns-in_err-values-clause-only c = λ vs n f.
    let p = err_from_is_err_and c.from_residual.result c.from_residual.ensures.1 in
    let e = c.in_err-values.field-0.0 in
    rw (p.1, p.2) (Fails-ok e _ (vs, n) (subst (Fails e) (prefix_again c.args.bytes.now c.args.count vs n f) c.in_err-values.ensures))

pub overflow_sub-result : goal.overflow_sub-result
overflow_sub-result c =
    (prefix_read c.args.bytes.now c.args.count c.in_ok-values.values c.in_ok-values.rest.now (λ i. omega (arith, c.type_inv.bytes i)) c.in_ok-values.ensures).2

pub returns-clause-found : goal.returns-clause-found
returns-clause-found c =
    (prefix_read c.args.bytes.now c.args.count c.in_ok-values.values c.in_ok-values.rest.now (λ i. omega (arith, c.type_inv.bytes i)) c.in_ok-values.ensures).0

pub returns-clause-only : goal.returns-clause-only
returns-clause-only c =
    prefix_only c.args.bytes.now c.args.count c.in_ok-values.values c.in_ok-values.rest.now (λ i. omega (arith, c.type_inv.bytes i)) c.in_ok-values.ensures

pub returns-clause-exact : goal.returns-clause-exact
returns-clause-exact c =
    rw (prefix_read c.args.bytes.now c.args.count c.in_ok-values.values c.in_ok-values.rest.now (λ i. omega (arith, c.type_inv.bytes i)) c.in_ok-values.ensures).1 c.in_ok-values.ensures
