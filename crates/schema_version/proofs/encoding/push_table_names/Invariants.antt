use Rattle.std.proofs.Common.{◌≡◌, ◌++◌, take}
use Rattle.std.specs.List.{flat_map}
use mathlib.Core.List.{map as each}
use Rattle.std.specs.String.{string_bytes}
use Rattle.schema_version.specs.inner.Encoding.{after_one, name_bytes}
use Rattle.schema_version.proofs.encoding.push_table_names.Given as goal

abbrev pub invariant-loop-name : goal.invariant-loop-name
invariant-loop-name l = l.out.items ≡ l.fn.out.items ++ flat_map (after_one name_bytes) (each string_bytes (take l.name-index l.names))
