use Rattle.std.proofs.Common.{◌≡◌, drop}
use Rattle.row_write.specs.inner.Checks.{ops_check, AreKnownUntil}
use Rattle.row_write.proofs.check.first_fault.Given as goal

abbrev pub invariant-loop-op : goal.invariant-loop-op
invariant-loop-op l = record {
  rest : ops_check l.schema (drop l.op-index l.ops) ≡ ops_check l.schema l.ops;
  known : AreKnownUntil l.schema (drop l.op-index l.ops) → AreKnownUntil l.schema l.ops;
}
