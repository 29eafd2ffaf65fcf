use Rattle.std.proofs.Common.{◌≡◌, drop}
use Rattle.schema_version.specs.inner.AcceptTables.{names_in}
use Rattle.table_faults.specs.inner.Search.{indexes_cause}
use Rattle.table_faults.proofs.lists.indexes_cause.Given as goal

abbrev pub invariant-loop-index : goal.invariant-loop-index
invariant-loop-index l = indexes_cause l.index (names_in l.table.columns) (drop l.index l.table.indexes) ≡ indexes_cause 0 (names_in l.table.columns) l.table.indexes
