use Rattle.std.proofs.Common.{Err}
use Rattle.typed_calls.specs.Refusals.{refused}
use Rattle.typed_calls.specs.Writes.{WritesWorld}
use Rattle.typed_calls.specs.Statuses.{too_far}
use Rattle.typed_calls.proofs.Reach.{within}
use Rattle.typed_calls.proofs.writes.write.Goals as goal

pub returns : goal.returns
returns c =
    within (Err (refused too_far)) (λ world a world'. WritesWorld world c.args.moment c.args.held.now c.args.code.now a world') c.args.bounded.now c.args.moment c.is_too_far.result
    c.write_to.result c.write_to.new.world c.is_too_far.ensures c.if-is_too_far.false c.write_to.ensures
