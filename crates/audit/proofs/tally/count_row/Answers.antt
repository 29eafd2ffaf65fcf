use Rattle.std.proofs.Common.{◌≡◌, IfOk, Option, Some, subst, rules}
use Rattle.row_map.specs.declared.key.KeyOf.{KeyOf}
use Rattle.row_map.specs.declared.key.KeyOf.TheVariants.{Exists}
use Rattle.audit.specs.inner.RowCounts.{given_beside}
use Rattle.audit.proofs.tally.count_row.Goals as goal

pub returns-in-Some-Exists-clause-given : goal.returns-in-Some-Exists-clause-given
returns-in-Some-Exists-clause-given g c =
    let key : Some (Exists c.in-Some-Exists.table c.as_slice.result.now) ≡ c.args.read.now = search rules in
    subst (λ (read : Option KeyOf). IfOk c.count_at.result (λ w. w.given ≡ given_beside c.args.schema.now (g.V.PairView.pairs c.args.view.now) read))
    key
    c.count_at.ensures.given
