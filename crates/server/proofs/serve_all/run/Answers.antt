use Rattle.std.proofs.Common.{List, subst}
use Rattle.locked_store.specs.Known.{Known, IsLeastFront}
use Rattle.server.specs.Serve.{IsMostFront}
use Rattle.server.proofs.Serves.{serves}
use Rattle.server.proofs.serve_all.run.Goals as goal

pub returns-in-Ok-clause-served : goal.returns-in-Ok-clause-served
returns-in-Ok-clause-served g c =
    serves g.L.SharedLedger.start c.args.requests.now c.args.tries c.least_front-front.result c.most_front-most.result c.args.handles.items c.make_workers-workers.result.items c.in-Ok.field-0.workers.items c.in-Ok.field-0.outcomes.items c.into_parts.new.handles.items c.into_parts.new.receipts.items
    (subst (λ (hs : List Known). IsLeastFront hs c.least_front-front.result) c.deref.ensures.value c.least_front-front.ensures)
    (subst (λ (hs : List Known). IsMostFront hs c.most_front-most.result) c.deref-2.ensures.value c.most_front-most.ensures) c.make_workers-workers.ensures.staff c.make_workers-workers.ensures.idle c.in-Ok.ensures.each c.in-Ok.ensures.fits c.in-Ok.ensures.back c.in-Ok.ensures.plans c.in-Ok.ensures.counted c.in-Ok.ensures.tried c.into_parts.ensures.back c.into_parts.ensures.risen
    c.into_parts.ensures.lists c.into_parts.ensures.kept_receipts c.into_parts.ensures.leases
