use Rattle.std.proofs.Common.{◌≡◌, ◌++◌, take, drop}
use Rattle.std.specs.List.{AllByRecursion}
use Rattle.row_write.specs.Prepare.{IsEncodedRow}
use Rattle.row_write.specs.inner.Places.{AreReads}
use Rattle.row_write.specs.inner.View.{exists_keys}
use Rattle.row_write.proofs.read.read_rows.Given as goal

abbrev pub invariant-loop-op : goal.invariant-loop-op
invariant-loop-op l = record {
  encoded : AllByRecursion (IsEncodedRow l.schema l.view l.rows) (take l.op-index l.ops);
  keys : l.keys.items ++ exists_keys (drop l.op-index l.ops) ≡ exists_keys l.ops;
  marked : AreReads l.schema l.ops l.view l.initial.marks → AreReads l.schema l.ops l.view l.marks;
}
