use Rattle.std.proofs.Common.{◌≡◌, IfOk, subst}
use Rattle.std.specs.Prelude.{count_by}
use Rattle.row_map.specs.declared.shape.Row.{Row}
use Rattle.schema_version.specs.Version.{live}
use Rattle.audit.specs.inner.RowCounts.{gives}
use Rattle.audit.proofs.tally.count_at.Goals as goal

pub returns-clause-given : goal.returns-clause-given
returns-clause-given g c =
    subst (λ (row : Row). IfOk c.count_wanted.result (λ w. w.given ≡ count_by (gives c.args.schema.now (g.V.PairView.pairs c.args.view.now) c.args.table row) (live c.args.schema.now)))
    c.in_ok-row.ensures
    c.count_wanted.ensures.given
