use Rattle.std.proofs.Common.{◌≡◌, drop}
use Rattle.value_faults.specs.Faults.{named_twice}
use Rattle.value_faults.proofs.given.named_twice.Given as goal

abbrev pub invariant-loop-i : goal.invariant-loop-i
invariant-loop-i l = named_twice (drop l.i l.cells) ≡ named_twice l.cells
