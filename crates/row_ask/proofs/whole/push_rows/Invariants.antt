use Rattle.std.proofs.Common.{◌≡◌, ◌++◌, drop}
use Rattle.row_ask.specs.Whole.{row_ranges}
use Rattle.row_ask.proofs.whole.push_rows.Given as goal

abbrev pub invariant-loop-key : goal.invariant-loop-key
invariant-loop-key l = l.out.items ++ row_ranges l.table (drop l.key-index l.keys) ≡ l.fn.out.items ++ row_ranges l.table l.keys
