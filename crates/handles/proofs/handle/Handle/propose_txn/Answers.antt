use Rattle.std.proofs.Common.{inr, refl}
use Rattle.handles.proofs.handle.Handle.propose_txn.Goals as goal

pub returns-in-Err : goal.returns-in-Err
returns-in-Err c = inr (c.in-Err.txn, c.in-Err.ensures, refl, c.requires)
