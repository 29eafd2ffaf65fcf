use Rattle.std.proofs.Common.{◌≡◌, ◌++◌, drop}
use Rattle.layer_calls.specs.Given.{keys_in}
use Rattle.layer_calls.proofs.given.keys_alone.Given as goal

abbrev pub invariant-loop-point : goal.invariant-loop-point
invariant-loop-point l = l.keys.items ++ keys_in (drop l.point-index l.points) ≡ keys_in l.points
