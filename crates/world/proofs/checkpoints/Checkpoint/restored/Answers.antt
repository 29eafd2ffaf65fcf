use Rattle.std.proofs.Common.{rules}
use Rattle.world.specs.Restored.{checkpoint_with}
use Rattle.world.proofs.checkpoints.Checkpoint.restored.Goals as goal

pub invariant_of-result : goal.invariant_of-result
invariant_of-result c = c.lemma_sound_is_whole.ensures.whole (checkpoint_with c.args.parts) (search rules)
