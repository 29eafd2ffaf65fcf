use Rattle.std.proofs.Common.{sym}
use Rattle.row_write.proofs.Prepares.{made_from}
use Rattle.row_write.proofs.prepare_txn.prepare.Goals as goal

pub invariant_of-result : goal.invariant_of-result
invariant_of-result c =
    made_from c.get.result.now c.args.schema c.args.ops c.in-Ok.shared c.args.lease c.args.view c.in-Ok.batch c.in-Ok.reported c.get.ensures (sym c.in-Ok.ensures.shared) c.in-Ok.ensures.sound c.in-Ok.ensures.some_rows c.in-Ok.ensures.prepared
