use Rattle.std.proofs.Common.{◌≡◌, drop}
use Rattle.std.specs.FinMap as map
use Rattle.row_map.specs.Writes.{noted}
use Rattle.draft_store.proofs.copies.batch_of.Given as goal

abbrev pub invariant-loop-write : goal.invariant-loop-write
invariant-loop-write l = noted l.batch (drop l.write-index l.writes) ≡ noted map.empty l.writes
