use Rattle.std.proofs.Common.{◌≡◌}
use Rattle.layer_calls.specs.Dues.{steps_in}
use Rattle.layer_calls.proofs.dues.steps_alone.Given as goal

abbrev pub invariant-loop-planned : goal.invariant-loop-planned
invariant-loop-planned l = l.steps.items ≡ steps_in l.yielded
