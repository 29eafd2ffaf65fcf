use Rattle.std.proofs.Common.{◌≡◌, ◌++◌, take}
use Rattle.std.specs.List.{flat_map}
use Rattle.schema_version.specs.inner.Encoding.{after_one, byte}
use Rattle.schema_version.proofs.encoding.push_name.Given as goal

abbrev pub invariant-loop-b : goal.invariant-loop-b
invariant-loop-b l = l.out.items ≡ l.fn.out.items ++ flat_map (after_one byte) (take l.b-index l.name)
