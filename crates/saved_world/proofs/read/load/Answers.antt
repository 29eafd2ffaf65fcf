use Rattle.std.proofs.Common.{rules}
use Rattle.saved_world.proofs.Digests.{damaged_back, plain_back, whole_back}
use Rattle.saved_world.proofs.read.load.Goals as goal

pub returns-in-Plain-clause-accepted : goal.returns-in-Plain-clause-accepted
returns-in-Plain-clause-accepted c = plain_back c.args.bytes.now c.load_parts.result (search rules) c.load_parts.ensures.accepted

pub returns-in-Whole-clause-accepted : goal.returns-in-Whole-clause-accepted
returns-in-Whole-clause-accepted c = whole_back c.args.bytes.now c.load_parts-in-Whole.result c.in-Whole.parts.now (search rules) c.load_parts-in-Whole.ensures.accepted

pub returns-in-Damaged-clause-accepted : goal.returns-in-Damaged-clause-accepted
returns-in-Damaged-clause-accepted c = damaged_back c.args.bytes.now (search rules)
