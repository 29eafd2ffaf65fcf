use Rattle.std.proofs.Common.{◌≡◌, ◌++◌, take}
use Rattle.std.specs.List.{flat_map}
use Rattle.schema_version.specs.inner.Encoding.{after_one, element_bytes}
use Rattle.schema_version.proofs.encoding.push_elements.Given as goal

abbrev pub invariant-loop-element : goal.invariant-loop-element
invariant-loop-element l = l.out.items ≡ l.fn.out.items ++ flat_map (after_one element_bytes) (take l.element-index l.elements)
