use Rattle.audit.proofs.LastMet.{present_within}
use Rattle.audit.proofs.parts.tally_range.Goals as goal

pub tally_walk-requires : goal.tally_walk-requires
tally_walk-requires g c = present_within (g.V.PairView.pairs c.args.view.now) c.args.low.now c.args.high.now c.walk_within.result c.walk_within.ensures
