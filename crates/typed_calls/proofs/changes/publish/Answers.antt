use Rattle.std.proofs.Common.{Err}
use Rattle.typed_calls.specs.Changes.{PublishesWorld, change_alone}
use Rattle.typed_calls.specs.Statuses.{too_far}
use Rattle.typed_calls.proofs.Reach.{within}
use Rattle.typed_calls.proofs.changes.publish.Goals as goal

pub returns : goal.returns
returns c =
    within (Err (change_alone too_far)) (λ world a world'. PublishesWorld world c.args.moment c.args.code.now a world') c.args.bounded.now c.args.moment c.is_too_far.result
    c.publish_to.result c.publish_to.new.world c.is_too_far.ensures c.if-is_too_far.false c.publish_to.ensures
