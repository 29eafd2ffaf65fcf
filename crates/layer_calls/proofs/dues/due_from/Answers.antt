use Rattle.std.proofs.Common.{inl, inr, refl, ap, subst, ◌∙◌, drop, List}
use Rattle.std.proofs.lemmas.Result.{err_from_is_err_and}
use Rattle.schema_version.specs.declared.step.Move.{Move}
use Rattle.layer_calls.specs.Dues.{DueBy}
use Rattle.layer_calls.proofs.dues.due_from.Goals as goal

pub returns-in_err-records : goal.returns-in_err-records
returns-in_err-records c =
    let p = err_from_is_err_and c.from_residual-in_err-records.result c.from_residual-in_err-records.ensures.1 in
    let e = c.in_err-records.field-0.0 in
    rw (p.1, p.2) (inl (c.in_ok-schema.schema, c.in_ok-schema.ensures, inr (e, c.in_err-records.ensures, refl)))

pub returns-in_err-steps : goal.returns-in_err-steps
returns-in_err-steps c =
    let p = err_from_is_err_and c.from_residual-in_err-steps.result c.from_residual-in_err-steps.ensures.1 in
    let e = c.in_err-steps.field-0.0 in
    rw (p.1, p.2) (inl (c.in_ok-schema.schema, c.in_ok-schema.ensures, inl (c.in_ok-records.records, c.in_ok-records.ensures, inr (e, c.in_err-steps.ensures, refl))))

pub returns : goal.returns
returns c = inl (
  c.in_ok-schema.schema,
  c.in_ok-schema.ensures,
  inl (
    c.in_ok-records.records,
    c.in_ok-records.ensures,
    inl (
      c.in_ok-steps.steps,
      c.in_ok-steps.ensures,
      subst (λ (steps : List (List Move)). DueBy c.in_ok-records.records steps c.due_by.result) (c.steps_left.ensures ∙ ap (drop c.args.published) c.as_slice.ensures) c.due_by.ensures,
    ),
  ),
)
