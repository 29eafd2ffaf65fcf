use Rattle.std.proofs.Common.{◌≡◌}
use Rattle.script_names.specs.Names.{resolved_all}
use Rattle.script_names.proofs.rows.resolved_all.Given as goal

abbrev pub invariant-loop-operation : goal.invariant-loop-operation
invariant-loop-operation l = l.ops.items ≡ resolved_all l.schema l.yielded
