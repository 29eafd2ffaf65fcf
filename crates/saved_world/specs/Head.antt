-- Cited by the contracts of save_head.
-- The head of a checkpoint: all but its pairs.
use Rattle.checkpoint.specs.Checkpoint.{Checkpoint}
use Rattle.checkpoint_code.specs.declared.head.Head.{Head}

abbrev pub head_of : Checkpoint → Head
head_of checkpoint =
    record { place = checkpoint.place; moment = checkpoint.moment; line = checkpoint.line; newest = checkpoint.newest; before = checkpoint.before; begun = checkpoint.progress }
