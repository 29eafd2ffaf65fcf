use Rattle.std.proofs.Common.{inl, inr, refl, subst, List}
use Rattle.std.proofs.lemmas.Result.{err_from_is_err_and}
use Rattle.row_map.specs.Rows.{Bytes}
use Rattle.layer_calls.specs.Changes.{newest_of, Begins}
use Rattle.layer_calls.proofs.changes.begin.Goals as goal

pub returns-in_err-keys : goal.returns-in_err-keys
returns-in_err-keys c =
    let p = err_from_is_err_and c.from_residual-in_err-keys.result c.from_residual-in_err-keys.ensures.1 in
    let e = c.in_err-keys.field-0.0 in
    rw (p.1, p.2) (inl (c.in_ok-schema.schema, c.in_ok-schema.ensures, inr (e, c.in_err-keys.ensures, refl)))

pub returns : goal.returns
returns c = inl (c.in_ok-schema.schema, c.in_ok-schema.ensures, inl (c.in_ok-keys.keys, c.in_ok-keys.ensures, subst (λ (keys : List Bytes). Begins (newest_of c.args.before c.in_ok-schema.schema) c.args.element keys c.begin_at.result) c.as_slice.ensures c.begin_at.ensures))
