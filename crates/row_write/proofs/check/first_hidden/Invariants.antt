use Rattle.std.proofs.Common.{◌≡◌, drop}
use Rattle.row_write.specs.inner.Checks.{first_hidden}
use Rattle.row_write.proofs.check.first_hidden.Given as goal

abbrev pub invariant-loop-number : goal.invariant-loop-number
invariant-loop-number l = first_hidden l.elements l.table (drop l.number-index l.cells) ≡ first_hidden l.elements l.table l.cells
