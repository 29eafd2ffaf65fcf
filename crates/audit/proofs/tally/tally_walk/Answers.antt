use Rattle.std.proofs.Common.{refl}
use Rattle.audit.proofs.Tallies.{tally_begun, strings_begun, strings_done}
use Rattle.audit.proofs.tally.tally_walk.Goals as goal

pub loop-pair-init : goal.loop-pair-init
loop-pair-init g c = record {
  counted = tally_begun c.args.schema.now (g.V.PairView.pairs c.args.view.now) _ _ _ refl refl;
  present = c.requires;
  there = tt;
  strings = λ all. all;
}

pub returns-clause-strings : goal.returns-clause-strings
returns-clause-strings g c = strings_done c.args.ahead c.loop-pair.walk c.in_default.ensures.none c.loop-pair.invariant.strings
