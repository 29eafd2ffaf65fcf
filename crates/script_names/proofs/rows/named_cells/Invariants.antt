use Rattle.std.proofs.Common.{◌≡◌}
use Rattle.script_names.specs.Names.{named_cells}
use Rattle.script_names.proofs.rows.named_cells.Given as goal

abbrev pub invariant-loop-name : goal.invariant-loop-name
invariant-loop-name l = l.cells.items ≡ named_cells l.schema l.table l.yielded
