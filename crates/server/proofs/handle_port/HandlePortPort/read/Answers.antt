use Rattle.server.proofs.HandlePorts.{read_says, stays}
use Rattle.server.proofs.handle_port.HandlePortPort.read.Goals as goal

pub returns-clause-says : goal.returns-clause-says
returns-clause-says g c f m at = read_says g.L.SharedLedger.start f m _ _ c.args.keys.now _ c.read-answer.ensures at

pub returns-clause-stays : goal.returns-clause-stays
returns-clause-stays g c = stays g.L.SharedLedger.start _ _ _ _ _ c.read-answer.ensures
