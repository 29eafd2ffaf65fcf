use Rattle.std.proofs.Common.{◌≡◌, take}
use Rattle.std.specs.FinMap as map
use Rattle.row_map.specs.Writes.{noted}
use Rattle.record_code.proofs.draft.last_writes.Given as goal

abbrev pub invariant-loop-write : goal.invariant-loop-write
invariant-loop-write l = l.out ≡ noted map.empty (take l.write-index l.write-items)
