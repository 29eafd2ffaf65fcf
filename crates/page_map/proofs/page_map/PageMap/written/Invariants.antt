use Rattle.std.proofs.Common.{◌≡◌, length}
use Rattle.byte_map.specs.Sorted.{IsSorted}
use Rattle.byte_map.specs.Writes.{written_all}
use Rattle.page_map.proofs.page_map.PageMap.written.Given as goal

abbrev pub invariant-loop-left : goal.invariant-loop-left
invariant-loop-left l = record {
  sorted : IsSorted l.left;
  whole : written_all l.new l.left ≡ written_all l.self l.writes;
}

abbrev pub decreases-loop-left : goal.decreases-loop-left
decreases-loop-left l = length l.left
