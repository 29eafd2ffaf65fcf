use Rattle.std.proofs.Common.{◌≡◌, ◌≤◌, length, take}
use Rattle.page_map.specs.Empties.{empties}
use Rattle.page_map.proofs.flat_pairs.FlatPairs.count_empty.Given as goal

abbrev pub invariant-loop-at : goal.invariant-loop-at
invariant-loop-at l = record { counted : l.count ≡ length (empties (take l.at l.self.pairs)); few : l.count ≤ l.at }
