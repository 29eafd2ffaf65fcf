use Rattle.std.proofs.Common.{◌≡◌, take}
use Rattle.world.proofs.checkpoints.copy_begun.Given as goal

abbrev pub invariant-loop-progress : goal.invariant-loop-progress
invariant-loop-progress l = l.copy.items ≡ take l.progress-index l.begun
