use Rattle.std.proofs.Common.{◌≡◌, take}
use Rattle.schema_version.specs.Restored.{numbered}
use Rattle.schema_version.proofs.restore.hold_elements.Given as goal

abbrev pub invariant-loop-element : goal.invariant-loop-element
invariant-loop-element l = l.held.entries ≡ numbered (take l.element-index l.elements)
