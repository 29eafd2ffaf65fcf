use Rattle.std.proofs.Common.{◌≡◌, drop, is_some}
use Rattle.row_write.specs.inner.Checks.{first_hidden}
use Rattle.value_faults.proofs.given.has_hidden.Given as goal

abbrev pub invariant-loop-number : goal.invariant-loop-number
invariant-loop-number l = is_some (first_hidden l.elements l.table (drop l.number-index l.cells)) ≡ is_some (first_hidden l.elements l.table l.cells)
