use Rattle.std.proofs.Common.{Option, subst}
use Rattle.row_map.specs.Rows.{Bytes}
use Rattle.schema_version.specs.Version.{Version}
use Rattle.page_check.specs.Page.{page_of, IsPageAudit}
use Rattle.layer_calls.specs.PageChecks.{page_end}
use Rattle.layer_calls.proofs.page_checks.counted.Goals as goal

pub returns : goal.returns
returns c = (
  c.in_ok-schema.schema,
  c.in_ok-view.view,
  c.in_ok-schema.ensures,
  c.in_ok-view.ensures,
  subst (λ (v : Version). IsPageAudit v c.in_ok-view.view (page_of c.in_ok-view.view c.args.low.now (page_end c.args.to.now)) c.in_ok-report.report) c.get.ensures
      (subst (λ (to : Option Bytes). IsPageAudit c.get.result.now c.in_ok-view.view (page_of c.in_ok-view.view c.args.low.now to) c.in_ok-report.report) c.page_end.ensures c.in_ok-report.ensures),
)
