use Rattle.std.proofs.Common.{◌≡◌, ◌+◌, ◌++◌, drop}
use Rattle.schema_version.specs.inner.AcceptTables.{names_in}
use Rattle.table_faults.specs.inner.Parts.{part_cause}
use Rattle.table_faults.proofs.names.part_cause.Given as goal

abbrev pub invariant-loop-i : goal.invariant-loop-i
invariant-loop-i g l = part_cause (l.first + l.i) (names_in (drop l.i l.items)) (names_in l.columns ++ names_in l.indexes) ≡ part_cause l.first (names_in l.items) (names_in l.columns ++ names_in l.indexes)
