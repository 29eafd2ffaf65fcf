use Rattle.row_write.proofs.Entered.{reads_ok}
use Rattle.row_write.proofs.reads.reads_of.Goals as goal

pub returns : goal.returns
returns c = reads_ok c.args.schema.now c.lemma_served.ensures c.args.ops.now c.read_set.result c.read_set.ensures
