use Rattle.std.proofs.Common.{IfOk, subst}
use Rattle.audit.specs.Audit.{Pair}
use Rattle.audit.specs.inner.RowCounts.{AllStrings}
use Rattle.audit.proofs.LastMet.{all_present}
use Rattle.audit.proofs.Tallies.{strings_told}
use Rattle.audit.proofs.tally.tally_all.Goals as goal

pub tally_walk-requires : goal.tally_walk-requires
tally_walk-requires g c = all_present (g.V.PairView.pairs c.args.view.now) c.walk.result c.walk.ensures

pub returns-clause-strings : goal.returns-clause-strings
returns-clause-strings g c = strings_told (g.V.PairView.pairs c.args.view.now) c.walk.result c.walk.ensures c.tally_walk.result c.tally_walk.ensures.strings
