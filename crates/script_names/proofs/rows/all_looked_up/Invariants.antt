use Rattle.std.proofs.Common.{◌≡◌}
use mathlib.Core.List.{map}
use Rattle.script_names.specs.Names.{looked_up}
use Rattle.script_names.proofs.rows.all_looked_up.Given as goal

abbrev pub invariant-loop-condition : goal.invariant-loop-condition
invariant-loop-condition l = l.conds.items ≡ map (looked_up l.schema l.table) l.yielded
