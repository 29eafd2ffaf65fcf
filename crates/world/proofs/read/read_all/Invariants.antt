use Rattle.std.proofs.Common.{◌≡◌, drop}
use Rattle.world.specs.inner.Read.{noted_reads}
use Rattle.std.specs.FinMap as map
use Rattle.world.proofs.read.read_all.Given as goal

abbrev pub invariant-loop-key : goal.invariant-loop-key
invariant-loop-key l = noted_reads l.store l.view (drop l.key-index l.keys) ≡ noted_reads l.store map.empty l.keys
