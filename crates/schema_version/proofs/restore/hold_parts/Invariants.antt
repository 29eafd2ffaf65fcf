use Rattle.std.proofs.Common.{◌≡◌, take, Global}
use Rattle.std.specs.Prelude.{map}
use Rattle.schema_version.specs.Held.{table_held}
use Rattle.schema_version.specs.Restored.{table_with}
use Rattle.schema_version.proofs.restore.hold_parts.Given as goal

abbrev pub invariant-loop-part : goal.invariant-loop-part
invariant-loop-part l = map (table_held {Y = Global}) l.held.entries ≡ map table_with (take l.part-index l.tables)
