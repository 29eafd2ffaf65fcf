use Rattle.std.proofs.Common.{take}
use Rattle.keycode.specs.Valid.{AreValues}
use Rattle.row_page.proofs.known.known_values.Given as goal

abbrev pub invariant-loop-value : goal.invariant-loop-value
invariant-loop-value l = AreValues (take l.value-index l.values)
