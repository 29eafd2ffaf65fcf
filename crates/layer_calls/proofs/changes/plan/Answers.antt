use Rattle.std.proofs.Common.{inl, subst}
use Rattle.schema_version.specs.Version.{Version}
use Rattle.layer_calls.specs.Changes.{Plans}
use Rattle.layer_calls.proofs.changes.plan.Goals as goal

pub returns : goal.returns
returns c = inl (c.in_ok-schema.schema, c.in_ok-schema.ensures, subst (λ (v : Version). Plans v c.args.changes.now c.plan_from.result) c.get.ensures c.plan_from.ensures)
