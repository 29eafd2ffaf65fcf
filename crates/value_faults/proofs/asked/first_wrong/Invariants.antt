use Rattle.std.proofs.Common.{◌≡◌, drop}
use Rattle.value_faults.specs.inner.Found.{conditions_found}
use Rattle.value_faults.proofs.asked.first_wrong.Given as goal

abbrev pub invariant-loop-item : goal.invariant-loop-item
invariant-loop-item l = conditions_found l.item l.columns l.elements l.table (drop l.item l.conditions) ≡ conditions_found 0 l.columns l.elements l.table l.conditions
