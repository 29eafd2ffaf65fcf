use Rattle.std.proofs.Common.{◌≡◌, drop}
use Rattle.value_faults.specs.inner.Found.{ops_found, AreKnownUntil}
use Rattle.value_faults.proofs.given.first_wrong.Given as goal

abbrev pub invariant-loop-item : goal.invariant-loop-item
invariant-loop-item l = record {
  rest : ops_found l.item l.schema (drop l.item l.ops) ≡ ops_found 0 l.schema l.ops;
  known : AreKnownUntil l.schema (drop l.item l.ops) → AreKnownUntil l.schema l.ops;
}
