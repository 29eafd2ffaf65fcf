use Rattle.std.proofs.Common.{refl}
use Rattle.replica.proofs.Txns.{unfitting}
use Rattle.replica.proofs.txn.prepare_and_commit.Goals as goal

pub returns-in-Err : goal.returns-in-Err
returns-in-Err c =
    unfitting c.args.world.now c.args.now c.args.lease.now c.args.ops.now c.args.schema c.in-Err.fault c.in-Err.fault c.requires.later c.lemma_agrees.ensures.kept c.lemma_agrees.ensures.replayed c.requires.serves c.requires.there c.in-Err.ensures.unfit refl
