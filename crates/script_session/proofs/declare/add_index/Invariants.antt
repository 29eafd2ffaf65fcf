use Rattle.std.proofs.Common.{◌≡◌}
use Rattle.script_session.proofs.Indexes.{IsSplit}
use Rattle.script_session.proofs.declare.add_index.Given as goal

abbrev pub invariant-loop-place : goal.invariant-loop-place
invariant-loop-place l = record {
  same : l.tables.items ≡ l.fn.tables.items;
  split : IsSplit l.name l.table l.columns l.tables.items l.place;
}
