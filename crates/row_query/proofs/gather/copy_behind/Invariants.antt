use Rattle.std.proofs.Common.{◌≡◌, take}
use Rattle.row_query.proofs.gather.copy_behind.Given as goal

abbrev pub invariant-loop-value : goal.invariant-loop-value
invariant-loop-value l = l.rest.items ≡ take l.value-index l.value-items
