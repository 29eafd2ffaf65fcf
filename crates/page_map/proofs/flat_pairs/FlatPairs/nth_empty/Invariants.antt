use Rattle.std.proofs.Common.{◌≡◌, drop}
use Rattle.std.specs.List.{slice_get}
use Rattle.page_map.specs.Empties.{empties}
use Rattle.page_map.proofs.flat_pairs.FlatPairs.nth_empty.Given as goal

abbrev pub invariant-loop-at : goal.invariant-loop-at
invariant-loop-at l = slice_get (empties (drop l.at l.self.pairs)) l.left ≡ slice_get (empties (drop l.from l.self.pairs)) l.n
