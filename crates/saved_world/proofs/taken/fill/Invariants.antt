use Rattle.std.proofs.Common.{◌≡◌, ◌++◌, ◌-◌, map as each}
use Rattle.std.specs.Prelude.{vec_len}
use Rattle.saved_world.specs.Taken.{plain}
use Rattle.saved_world.proofs.taken.fill.Given as goal

abbrev pub invariant-loop-taken : goal.invariant-loop-taken
invariant-loop-taken l = each plain l.taken.items ++ l.left ≡ each plain l.fn.taken.items ++ l.fn.left

abbrev pub decreases-loop-taken : goal.decreases-loop-taken
decreases-loop-taken l = l.limit - vec_len l.taken
