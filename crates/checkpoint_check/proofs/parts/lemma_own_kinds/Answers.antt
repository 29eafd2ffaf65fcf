use Rattle.checkpoint_check.proofs.Tests.{own_kinds}
use Rattle.checkpoint_check.proofs.parts.lemma_own_kinds.Goals as goal

pub returns : goal.returns
returns c = own_kinds c.args.schema.now
