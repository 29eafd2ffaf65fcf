use Rattle.std.proofs.Common.{◌≡◌, drop}
use Rattle.std.specs.FinMap.{empty}
use Rattle.row_map.specs.Writes.{noted}
use Rattle.row_write.specs.Plain.{applied, outcome, reported as reported_of}
use Rattle.row_write.specs.Prepare.{writes_of}
use Rattle.row_write.proofs.run.run.Given as goal

abbrev pub invariant-loop-op : goal.invariant-loop-op
invariant-loop-op l = record {
  place : l.place ≡ l.op-index;
  reported : reported_of (applied l.place l.rows (drop l.op-index l.ops)) ≡ outcome l.initial.rows l.ops;
  batch : noted l.batch (writes_of l.schema l.rows (drop l.op-index l.ops)) ≡ noted empty (writes_of l.schema l.initial.rows l.ops);
}
