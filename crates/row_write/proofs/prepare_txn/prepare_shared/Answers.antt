use Rattle.std.proofs.Common.{◌∙◌}
use Rattle.row_write.proofs.Prepares.{made_from}
use Rattle.row_write.proofs.prepare_txn.prepare_shared.Goals as goal

pub invariant_of-result : goal.invariant_of-result
invariant_of-result c =
    made_from c.get.result.now c.args.schema c.as_slice.result.now c.args.ops c.args.lease c.args.view c.in-Ok.batch c.in-Ok.reported c.get.ensures (c.as_slice.ensures ∙ c.get-2.ensures) c.in-Ok.ensures.sound c.in-Ok.ensures.some_rows c.in-Ok.ensures.prepared
