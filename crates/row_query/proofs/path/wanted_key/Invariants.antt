use Rattle.std.proofs.Common.{◌≡◌, drop}
use Rattle.row_query.specs.inner.Bounds.{first_key}
use Rattle.row_query.proofs.path.wanted_key.Given as goal

abbrev pub invariant-loop-condition : goal.invariant-loop-condition
invariant-loop-condition l = first_key (drop l.condition-index l.conditions) ≡ first_key l.conditions
