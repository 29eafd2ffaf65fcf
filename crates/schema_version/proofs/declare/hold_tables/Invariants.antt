use Rattle.std.proofs.Common.{◌≡◌, take, Global}
use Rattle.std.specs.Prelude.{map}
use Rattle.schema_version.specs.Held.{table_held}
use Rattle.schema_version.specs.Declare.{table_of}
use Rattle.schema_version.proofs.declare.hold_tables.Given as goal

abbrev pub invariant-loop-table : goal.invariant-loop-table
invariant-loop-table l = map (table_held {Y = Global}) l.held.entries ≡ map table_of (take l.table-index l.tables)
