use Rattle.std.proofs.Common.{◌≡◌, take}
use mathlib.Core.List.{map as each}
use Rattle.world.specs.inner.Cursors.{cursor_of}
use Rattle.world.proofs.piece.cursors_for.Given as goal

abbrev pub invariant-loop-progress : goal.invariant-loop-progress
invariant-loop-progress l = l.spare.items ≡ each (cursor_of l.number l.cursor) (take l.progress-index l.begun)
