use Rattle.std.proofs.Common.{refl}
use Rattle.audit.specs.Encoded.{key_read}
use Rattle.audit.proofs.OwnPairs.{counted}
use Rattle.audit.proofs.tally.judge_pair.Goals as goal

pub returns-then-not-may_be_of_row-clause-counts : goal.returns-then-not-may_be_of_row-clause-counts
returns-then-not-may_be_of_row-clause-counts g c = counted c.args.schema.now _ (key_read c.args.pair.0.now) (c.if-not-may_be_of_row.ensures refl)
