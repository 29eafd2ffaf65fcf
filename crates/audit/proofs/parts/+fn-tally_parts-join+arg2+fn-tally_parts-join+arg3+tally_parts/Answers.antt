use Rattle.audit.proofs.Divided.{halves_counted, halves_strings}
use Rattle.audit.proofs.parts.+fn-tally_parts-join+arg2+fn-tally_parts-join+arg3+tally_parts.Goals as goal

pub returns-clause-counts : goal.returns-clause-counts
returns-clause-counts g n c =
    halves_counted c.args.schema.now (g.V.PairView.pairs c.args.view.now) c.args.low.now c.in-Some.middle.now c.args.high.now c.join-below.result.0 c.join-below.result.1 c.and.result c.in_ok-below.field-0 c.in_ok-above.field-0
    c.in-Some.ensures.from c.in-Some.ensures.to c.in_ok-below.was c.in_ok-above.was c.join-below.ensures.first.0 c.join-below.ensures.second.0 c.and.ensures

pub returns-clause-strings : goal.returns-clause-strings
returns-clause-strings g n c =
    halves_strings (g.V.PairView.pairs c.args.view.now) c.args.low.now c.in-Some.middle.now c.args.high.now c.join-below.result.0 c.join-below.result.1 c.and.result c.in_ok-below.field-0 c.in_ok-above.field-0
    c.in-Some.ensures.from c.in-Some.ensures.to c.in_ok-below.was c.in_ok-above.was c.join-below.ensures.first.1 c.join-below.ensures.second.1
