use Rattle.std.proofs.Common.{◌≡◌}
use Rattle.script_names.specs.Moves.{step_of}
use Rattle.script_names.proofs.moves.step_of.Given as goal

abbrev pub invariant-loop-named : goal.invariant-loop-named
invariant-loop-named l = l.step.items ≡ step_of l.schema l.yielded
