use Rattle.std.proofs.Common.{List, ℕ, arith}
use Rattle.page_map.proofs.Empties.{count_pair}
use Rattle.page_map.proofs.flat_pairs.FlatPairs.count_empty.Goals as goal

pub loop-at-preserved : goal.loop-at-preserved
loop-at-preserved c =
    let e : List ℕ × List ℕ = (c.pair.result.0.now, c.pair.result.1.now) in
    let more = count_pair c.args.self.now.pairs c.loop-at.at e c.pair.ensures in
    record { counted = omega (arith, more, c.count_one-count.ensures.counted, c.loop-at.invariant.counted); few = omega (arith, c.count_one-count.ensures.few, c.loop-at.invariant.few) }
