use Rattle.std.proofs.Common.{◌≡◌, drop}
use Rattle.table_faults.specs.inner.Search.{tables_cause}
use Rattle.table_faults.proofs.declaration.tables_cause.Given as goal

abbrev pub invariant-loop-table : goal.invariant-loop-table
invariant-loop-table l = tables_cause l.table (drop l.table l.tables) ≡ tables_cause 0 l.tables
