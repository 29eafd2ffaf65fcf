use Rattle.std.proofs.Common.{◌≡◌, ◌≤◌, length, take}
use Rattle.byte_map.proofs.words.compare_few.Given as goal

abbrev pub invariant-loop-i : goal.invariant-loop-i
invariant-loop-i l = record {
  in_first : l.i ≤ length l.x;
  in_second : l.i ≤ length l.y;
  same : take l.i l.x ≡ take l.i l.y;
}
