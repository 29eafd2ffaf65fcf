use Rattle.std.proofs.Common.{◌≡◌, drop, take}
use Rattle.row_query.specs.inner.Checks.{conditions_check, AreKnown}
use Rattle.row_query.proofs.check.check_conditions.Given as goal

abbrev pub invariant-loop-condition : goal.invariant-loop-condition
invariant-loop-condition l = record {
  rest : conditions_check l.elements l.table l.key (drop l.condition-index l.conditions) ≡ conditions_check l.elements l.table l.key l.conditions;
  known : AreKnown (take l.condition-index l.conditions);
}
