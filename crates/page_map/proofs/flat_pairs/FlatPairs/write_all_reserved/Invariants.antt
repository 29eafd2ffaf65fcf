use Rattle.std.proofs.Common.{◌≡◌, ◌+◌, ◌≤◌, drop, length}
use Rattle.byte_map.specs.Sorted.{IsSorted, changed_all}
use Rattle.page_map.specs.Empties.{empties}
use Rattle.page_map.specs.inner.FlatPairs.{HasRoom, wanted}
use Rattle.page_map.proofs.flat_pairs.FlatPairs.write_all_reserved.Given as goal

abbrev pub invariant-loop-key : goal.invariant-loop-key
invariant-loop-key l = record {
  sorted : IsSorted l.self.pairs;
  whole : changed_all l.self.pairs (drop l.key-index l.writes) ≡ changed_all l.fn.self.pairs l.writes;
  room : HasRoom l.self (wanted (drop l.key-index l.writes)) (length (drop l.key-index l.writes));
  counted : l.total ≡ length (empties l.self.pairs);
  few : l.total ≤ l.count + l.key-index;
}
