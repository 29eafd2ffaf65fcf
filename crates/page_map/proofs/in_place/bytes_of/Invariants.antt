use Rattle.std.proofs.Common.{◌≡◌, ◌+◌, drop}
use Rattle.page_map.specs.inner.FlatPairs.{wanted}
use Rattle.page_map.proofs.in_place.bytes_of.Given as goal

abbrev pub invariant-loop-key : goal.invariant-loop-key
invariant-loop-key l = l.total + wanted (drop l.key-index l.writes) ≡ wanted l.writes
