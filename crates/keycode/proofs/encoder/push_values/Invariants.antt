use Rattle.std.proofs.Common.{◌≡◌, ◌++◌, take}
use Rattle.keycode.specs.Code.{codes_of}
use Rattle.keycode.proofs.encoder.push_values.Given as goal

abbrev pub invariant-loop-value : goal.invariant-loop-value
invariant-loop-value l = l.out.items ≡ l.fn.out.items ++ codes_of (take l.value-index l.values)
