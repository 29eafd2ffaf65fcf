use Rattle.std.proofs.Common.{◌≡◌, ◌++◌, ◌≤◌, ◌+◌, ◌-◌, take, drop, reverse}
use Rattle.std.specs.Vec.{vec_len, vec_capacity}
use Rattle.page_map.proofs.rewrite.turn_over.Given as goal

abbrev pub invariant-loop-from : goal.invariant-loop-from
invariant-loop-from l = record {
  left : take l.at l.from.items ≡ take l.at l.fn.from.items;
  moved : l.to.items ++ reverse (drop l.at l.from.items) ≡ l.fn.to.items ++ reverse (drop l.at l.fn.from.items);
  total : vec_len l.from + vec_len l.to ≡ vec_len l.fn.from + vec_len l.fn.to;
  room : vec_len l.to + (vec_len l.from - l.at) ≤ vec_capacity l.to;
  capacity : vec_capacity l.fn.to ≤ vec_capacity l.to;
  from_capacity : vec_capacity l.fn.from ≤ vec_capacity l.from;
}

abbrev pub decreases-loop-from : goal.decreases-loop-from
decreases-loop-from l = vec_len l.from
