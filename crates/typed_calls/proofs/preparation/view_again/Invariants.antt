use Rattle.std.proofs.Common.{◌≡◌, drop}
use Rattle.std.specs.FinMap as map
use Rattle.byte_map.specs.Writes.{noted}
use Rattle.typed_calls.proofs.preparation.view_again.Given as goal

abbrev pub invariant-loop-key : goal.invariant-loop-key
invariant-loop-key l = noted l.copy (drop l.key-index l.entries) ≡ noted map.empty l.entries
