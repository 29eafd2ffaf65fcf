use Rattle.typed_calls.proofs.Again.{copied}
use Rattle.typed_calls.proofs.preparation.view_again.Goals as goal

pub returns : goal.returns
returns c = copied _ c.args.view.now c.entries-entries.result.now c.loop-key.key-index c.loop-key-test.false c.entries-entries.ensures.all c.loop-key.invariant
