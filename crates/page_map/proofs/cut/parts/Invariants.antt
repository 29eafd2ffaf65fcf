use Rattle.std.proofs.Common.{◌≡◌, ◌++◌, ◌≤◌, ◌-◌, drop}
use Rattle.page_map.specs.Pages.{joined}
use Rattle.page_map.proofs.cut.parts.Given as goal

abbrev pub invariant-loop-at : goal.invariant-loop-at
invariant-loop-at l = record {
  in_range : l.at ≤ l.len;
  whole : joined l.pages.items ++ drop l.at l.pairs.pairs ≡ l.pairs.pairs;
}

abbrev pub decreases-loop-at : goal.decreases-loop-at
decreases-loop-at l = l.len - l.at
