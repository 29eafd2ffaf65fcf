use Rattle.std.proofs.Common.{◌≡◌, ◌≤◌, ◌-◌, take}
use Rattle.byte_map.proofs.words.compare.Given as goal

abbrev pub invariant-loop-both : goal.invariant-loop-both
invariant-loop-both l = record {
  in_range : l.at ≤ l.last;
  same : take l.at l.one ≡ take l.at l.other;
}

abbrev pub decreases-loop-both : goal.decreases-loop-both
decreases-loop-both l = l.last - l.at
