use Rattle.std.proofs.Common.{◌≡◌, drop}
use Rattle.std.specs.FinMap.{empty}
use Rattle.row_write.specs.inner.Enter.{entered_all}
use Rattle.row_write.proofs.reads.read_set.Given as goal

abbrev pub invariant-loop-op : goal.invariant-loop-op
invariant-loop-op l = entered_all l.schema l.set (drop l.op-index l.ops) ≡ entered_all l.schema empty l.ops
