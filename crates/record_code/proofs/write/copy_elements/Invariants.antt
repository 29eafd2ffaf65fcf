use Rattle.std.proofs.Common.{◌≡◌, take}
use Rattle.record_code.proofs.write.copy_elements.Given as goal

abbrev pub invariant-loop-element : goal.invariant-loop-element
invariant-loop-element l = l.copy.items ≡ take l.element-index l.elements
