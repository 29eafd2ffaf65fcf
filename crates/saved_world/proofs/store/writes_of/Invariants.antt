use Rattle.std.proofs.Common.{◌≡◌, take}
use Rattle.saved_world.specs.inner.Puts.{puts}
use Rattle.saved_world.proofs.store.writes_of.Given as goal

abbrev pub invariant-loop-key : goal.invariant-loop-key
invariant-loop-key l = l.writes.items ≡ puts (take l.key-index l.page)
