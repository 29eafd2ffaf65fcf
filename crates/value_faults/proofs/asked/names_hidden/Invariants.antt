use Rattle.std.proofs.Common.{◌≡◌, drop}
use Rattle.value_faults.specs.inner.Found.{names_hidden}
use Rattle.value_faults.proofs.asked.names_hidden.Given as goal

abbrev pub invariant-loop-column : goal.invariant-loop-column
invariant-loop-column l = names_hidden l.elements l.table (drop l.column-index l.columns) ≡ names_hidden l.elements l.table l.columns
