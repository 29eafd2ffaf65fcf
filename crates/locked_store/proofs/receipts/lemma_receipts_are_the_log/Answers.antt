use Rattle.locked_store.proofs.WholeLog.{are_the_log}
use Rattle.locked_store.proofs.receipts.lemma_receipts_are_the_log.Goals as goal

pub returns : goal.returns
returns c = are_the_log
