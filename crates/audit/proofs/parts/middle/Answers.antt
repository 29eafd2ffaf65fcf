use Rattle.audit.proofs.Divided.{some_between}
use Rattle.audit.proofs.parts.middle.Goals as goal

pub returns-clause-from : goal.returns-clause-from
returns-clause-from g c = (some_between (g.V.PairView.pairs c.args.view.now) c.args.low.now c.args.high.now _ (λ m. m.now) c.nth_empty.result c.nth_empty.ensures).0

pub returns-clause-to : goal.returns-clause-to
returns-clause-to g c = (some_between (g.V.PairView.pairs c.args.view.now) c.args.low.now c.args.high.now _ (λ m. m.now) c.nth_empty.result c.nth_empty.ensures).1
