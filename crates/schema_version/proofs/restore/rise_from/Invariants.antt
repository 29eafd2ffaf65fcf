use Rattle.std.proofs.Common.{◌≡◌, drop}
use Rattle.schema_version.specs.inner.RestoreTests.{rise_from}
use Rattle.schema_version.proofs.restore.rise_from.Given as goal

abbrev pub invariant-loop-element : goal.invariant-loop-element
invariant-loop-element l = rise_from l.free l.next (drop l.element-index l.elements) ≡ rise_from l.least l.next l.elements
