use Rattle.std.proofs.Common.{◌≡◌, ◌++◌, take}
use Rattle.std.specs.List.{flat_map}
use Rattle.schema_version.specs.inner.Encoding.{after_one, column_bytes}
use Rattle.schema_version.proofs.encoding.push_columns.Given as goal

abbrev pub invariant-loop-column : goal.invariant-loop-column
invariant-loop-column l = l.out.items ≡ l.fn.out.items ++ flat_map (after_one column_bytes) (take l.column-index l.columns)
