use Rattle.std.proofs.Common.{◌≡◌, drop}
use Rattle.row_query.specs.inner.Checks.{columns_check}
use Rattle.row_query.proofs.check.check_columns.Given as goal

abbrev pub invariant-loop-column : goal.invariant-loop-column
invariant-loop-column l = columns_check l.elements l.table (drop l.column-index l.columns) ≡ columns_check l.elements l.table l.columns
