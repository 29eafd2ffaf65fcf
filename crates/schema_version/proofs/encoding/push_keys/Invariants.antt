use Rattle.std.proofs.Common.{◌≡◌, ◌++◌, take}
use Rattle.std.specs.List.{flat_map}
use Rattle.schema_version.specs.inner.Encoding.{after_one, key_bytes}
use Rattle.schema_version.proofs.encoding.push_keys.Given as goal

abbrev pub invariant-loop-key : goal.invariant-loop-key
invariant-loop-key l = l.out.items ≡ l.fn.out.items ++ flat_map (after_one key_bytes) (take l.key-index l.keys)
