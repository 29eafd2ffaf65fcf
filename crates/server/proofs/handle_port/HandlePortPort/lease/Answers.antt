use Rattle.server.proofs.HandlePorts.{granted, keeps, stays}
use Rattle.server.proofs.handle_port.HandlePortPort.lease.Goals as goal

pub returns-clause-keeps : goal.returns-clause-keeps
returns-clause-keeps g c f m at =
    keeps g.L.SharedLedger.start f m _ _ c.args.moment _ _ _ c.lease-granted.result _ c.reserve.ensures.items c.kept_apart-answer.ensures.lease_and_schema c.kept_apart-answer.ensures.kept_receipts c.lease-granted.ensures at.0

pub returns-clause-says : goal.returns-clause-says
returns-clause-says g c f m at = granted g.L.SharedLedger.start f m _ _ c.args.moment c.lease-granted.result _ c.kept_apart-answer.ensures.lease_and_schema c.lease-granted.ensures at

pub returns-clause-stays : goal.returns-clause-stays
returns-clause-stays g c = stays g.L.SharedLedger.start _ _ c.lease-granted.result _ _ c.lease-granted.ensures
