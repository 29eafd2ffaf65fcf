use Rattle.std.proofs.Common.{subst}
use Rattle.schema_version.specs.Version.{Version}
use Rattle.audit.specs.Audit.{IsAudit}
use Rattle.layer_calls.proofs.audits.counted.Goals as goal

pub returns : goal.returns
returns c = (
  c.in_ok-schema.schema,
  c.in_ok-view.view,
  c.in_ok-schema.ensures,
  c.in_ok-view.ensures,
  subst (λ (v : Version). IsAudit v c.in_ok-view.view c.in_ok-report.report) c.get.ensures c.in_ok-report.ensures,
)
