use Rattle.std.proofs.Common.{◌≡◌, ◌+◌, ◌++◌, drop}
use Rattle.schema_version.specs.Version.{grouped}
use Rattle.schema_version.proofs.by_table.by_table.Given as goal

-- the tables so far and those that are left are all
abbrev pub invariant-loop-table : goal.invariant-loop-table
invariant-loop-table l = (l.number ≡ 1 + l._table-index) × (l.groups.items ++ grouped l.number l.elements (drop l._table-index l.tables) ≡ grouped 1 l.elements l.tables)
