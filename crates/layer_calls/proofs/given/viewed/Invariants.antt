use Rattle.std.proofs.Common.{◌≡◌}
use Rattle.std.specs.FinMap as map
use Rattle.byte_map.specs.Writes.{noted}
use Rattle.layer_calls.proofs.given.viewed.Given as goal

abbrev pub invariant-loop-key : goal.invariant-loop-key
invariant-loop-key l = l.view ≡ noted map.empty l.yielded
