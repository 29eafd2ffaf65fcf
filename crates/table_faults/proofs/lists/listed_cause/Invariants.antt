use Rattle.std.proofs.Common.{◌≡◌, drop}
use Rattle.schema_version.specs.inner.AcceptTables.{names_in}
use Rattle.table_faults.specs.inner.Search.{listed_cause}
use Rattle.table_faults.proofs.lists.listed_cause.Given as goal

abbrev pub invariant-loop-place : goal.invariant-loop-place
invariant-loop-place l = listed_cause l.index l.place (names_in l.columns) (drop l.place l.listed) ≡ listed_cause l.index 0 (names_in l.columns) l.listed
