use Rattle.std.proofs.Common.{rules, arith, ap, subst, sym, ◌≡◌, ℕ, List, length}
use Rattle.locked_store.specs.Receipt.{Receipt}
use Rattle.server.specs.declared.tally.Tally.{Tally}
use Rattle.server.specs.Outcomes.{Said}
use Rattle.server.proofs.Ends.{unprepared_so, unprepared_ends}
use Rattle.server.proofs.Says.{read_back}
use Rattle.server.proofs.one_request.prepared_by.Goals as goal

pub returns : goal.returns
returns g c =
    let schema_is : c.in-Ok-clone.schema ≡ c.args.schema.now = search rules in
    let end = unprepared_ends c.in-Err.fault (g.P.Port.tally c.read.new.self).last (ap (λ (t : Tally). t.last) c.in-Ok-read.ensures.tallied) c.unprepared_outcome.result c.unprepared_outcome.ensures in
    record {
      of_request = tt;
      over = end.0;
      own = λ f m n requests at granted. unprepared_so (g.P.Port.may f m) requests c.args.request.now.moment n c.args.request.now.ops c.in-Err.fault c.args.lease c.args.schema.now c.in-Ok.keys c.in-Ok-read.view
          granted _ _ c.get.ensures c.as_slice.ensures c.in-Ok.ensures (c.in-Ok-read.ensures.says f m at) c.in-Ok-clone.schema c.in-Ok-ops_of.ops schema_is c.in-Ok-ops_of.ensures
          c.in-Err.ensures.refused c.unprepared_outcome.result c.unprepared_outcome.ensures;
      retries = ap (λ (t : Tally). t.retries) c.read.ensures.tallied;
      own_handle = c.read.ensures.own_handle;
      refusals = c.read.ensures.refusals;
      rises = c.read.ensures.rises;
      stays = c.read.ensures.stays;
      counted = omega (arith, c.read.ensures.same.0, ap (λ (rs : List Receipt). length rs) c.read.ensures.same.1, end.1);
      kept_receipts = c.read.ensures.same.1;
    }

pub returns-in-Err-WentBack-clause-own : goal.returns-in-Err-WentBack-clause-own
returns-in-Err-WentBack-clause-own g c f m n requests at granted =
    subst (λ (seen : ℕ). g.P.Port.may f m (Said.went_back seen)) (sym c.in-Err-WentBack.seen-is) (read_back (g.P.Port.may f m) c.in-Ok.keys c.in-Err-WentBack.field-0 c.in-Err-WentBack.seen c.in-Err-WentBack.field-0-is (c.in-Err-WentBack.ensures.says f m at))
