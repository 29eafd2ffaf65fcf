use Rattle.std.proofs.Common.{◌≡◌, length}
use Rattle.row_map.specs.Walk.{key_range}
use Rattle.row_ask.specs.Pages.{last_row_at}
use Rattle.row_ask.proofs.table_page.last_row.Given as goal

abbrev pub invariant-loop-key : goal.invariant-loop-key
invariant-loop-key g l = last_row_at l.table l.cut l.walk ≡ last_row_at l.table l.low (key_range (g.V.PairView.pairs l.view) l.low l.to)

abbrev pub decreases-loop-key : goal.decreases-loop-key
decreases-loop-key g l = length l.walk
