use Rattle.server.proofs.HandlePorts.{commit_says, stays_back}
use Rattle.server.proofs.handle_port.HandlePortPort.commit.Goals as goal

pub returns-clause-says : goal.returns-clause-says
returns-clause-says g c f m at = commit_says g.L.SharedLedger.start f m _ _ c.args.moment c.args.prepared _ c.commit-answer.ensures at

pub returns-clause-stays : goal.returns-clause-stays
returns-clause-stays g c = stays_back g.L.SharedLedger.start _ _ c.args.prepared _ _ _ c.commit-answer.ensures
