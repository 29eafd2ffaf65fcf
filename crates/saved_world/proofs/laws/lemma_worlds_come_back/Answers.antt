use Rattle.world.specs.State.{facts_of, entry_count}
use Rattle.saved_world.proofs.laws.lemma_worlds_come_back.Goals as goal

pub returns : goal.returns
returns c = c.lemma_checkpoints_keep.ensures.whole (facts_of c.args.world.now) (entry_count c.args.world.now) c.lemma_agrees.ensures.kept
