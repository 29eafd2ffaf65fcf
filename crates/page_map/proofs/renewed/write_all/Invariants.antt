use Rattle.std.proofs.Common.{◌≡◌, drop}
use Rattle.byte_map.specs.Sorted.{IsSorted, changed_all}
use Rattle.page_map.proofs.renewed.write_all.Given as goal

abbrev pub invariant-loop-key : goal.invariant-loop-key
invariant-loop-key l = record {
  sorted : IsSorted l.pairs.pairs;
  whole : changed_all l.pairs.pairs (drop l.key-index l.writes) ≡ changed_all l.fn.pairs.pairs l.writes;
}
