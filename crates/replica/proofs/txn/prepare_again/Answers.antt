use Rattle.std.proofs.Common.{sym, subst, ◌∙◌}
use Rattle.row_map.specs.declared.expect.Expect.{Expect}
use Rattle.row_map.specs.Expect.{Holds}
use Rattle.replica.proofs.Txns.{view_holds, unfit_by}
use Rattle.replica.proofs.txn.prepare_again.Goals as goal

pub returns-in-Ok-clause-prepared : goal.returns-in-Ok-clause-prepared
returns-in-Ok-clause-prepared c =
    let is = c.in-Ok.ensures.holds in
    record {
      schema = is.0;
      lease_is = is.1;
      ops_are = is.2 ∙ c.in_ok-copy.ensures;
      holds = subst (λ (e : Expect). Holds e c.args.world.now.pairs) (sym is.3) (view_holds c.args.world.now c.in_ok-keys.keys c.in_ok-view.view c.in_ok-view.ensures);
    }

pub returns-clause-unfit : goal.returns-clause-unfit
returns-clause-unfit c = λ e.
    unfit_by c.args.world.now c.args.schema c.get.result.now c.args.ops.now c.as_slice.result.now c.in_ok-copy.copy c.in_ok-keys.keys c.in_ok-view.view c.in-Err.refusal.0 c.get.ensures c.as_slice.ensures c.in_ok-copy.ensures
    c.in_ok-keys.ensures c.in_ok-view.ensures c.in-Err.ensures.refused (c.prepare_refusal.ensures e)
