use Rattle.audit.proofs.Tallies.{given_within, audit_from}
use Rattle.audit.proofs.parts.audit_on.Goals as goal

pub report-requires : goal.report-requires
report-requires g c = given_within c.args.schema.now (g.V.PairView.pairs c.args.view.now) c.lemma_known.ensures c.in_ok-counts.ensures.strings _ c.in_ok-counts.ensures.counts

pub returns : goal.returns
returns g c = audit_from c.args.schema.now (g.V.PairView.pairs c.args.view.now) c.lemma_known.ensures c.in_ok-counts.ensures.strings _ _ c.in_ok-counts.ensures.counts c.report.ensures.rows c.report.ensures.missing c.report.ensures.extra
