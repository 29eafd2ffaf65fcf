use Rattle.std.proofs.Common.{◌≡◌, map as each, take}
use Rattle.saved_world.specs.Taken.{plain}
use Rattle.saved_world.proofs.taken.copy_pairs.Given as goal

abbrev pub invariant-loop-pair : goal.invariant-loop-pair
invariant-loop-pair l = l.copy.items ≡ each plain (take l.pair-index l.taken)
