use Rattle.std.proofs.Common.{◌≡◌}
use Rattle.row_ask.proofs.index_page.keys_of.Given as goal

abbrev pub invariant-loop-key : goal.invariant-loop-key
invariant-loop-key l = l.all.items ≡ l.yielded
