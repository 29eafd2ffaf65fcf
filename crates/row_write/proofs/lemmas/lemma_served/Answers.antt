use Rattle.row_write.proofs.Sound.{served_from}
use Rattle.row_write.proofs.lemmas.lemma_served.Goals as goal

pub returns : goal.returns
returns c = served_from c.args.schema.now c.lemma_known.ensures
