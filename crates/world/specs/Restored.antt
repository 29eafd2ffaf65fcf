-- Cited by the contracts of Checkpoint::restored.
-- What the parts of a checkpoint are the parts of.
use Rattle.checkpoint_check.specs.Checkpoint.{Checkpoint}
use Rattle.world.specs.declared.restored.CheckpointParts.{CheckpointParts}

abbrev pub checkpoint_with : CheckpointParts → Checkpoint
checkpoint_with parts =
    record { place = parts.place; moment = parts.moment; line = parts.line; newest = parts.newest; before = parts.before; progress = parts.begun.items; pairs = parts.store }
