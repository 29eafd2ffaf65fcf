use Rattle.std.proofs.Common.{◌≡◌, ap, subst, ◌∙◌}
use Rattle.std.specs.Prelude.{IfOk}
use Rattle.schema_version.specs.Version.{Version}
use Rattle.schema_version.specs.Held.{holding}
use Rattle.schema_version.specs.Moves.{after_step}
use Rattle.schema_version.proofs.TableMoves.{table_public}
use Rattle.schema_version.proofs.declare.enter_table.Goals as goal

pub returns-clause-after : goal.returns-clause-after
returns-clause-after c = λ version.
    let v = holding version c.args.elements.now.entries c.args.first in
    let same = ap (after_step v) (c.deref.ensures.value ∙ c.in_ok-moves.ensures) ∙ table_public c.args.number c.args.first v c.args.table.now in
    subst (λ (w : Version). IfOk c.make_all.result (λ next. holding version c.make_all.new.elements.entries next ≡ w)) same (c.make_all.ensures.after version)
