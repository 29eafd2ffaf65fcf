use Rattle.std.proofs.Common.{Err}
use Rattle.typed_calls.specs.Changes.{BeginsWorld, change_alone}
use Rattle.typed_calls.specs.Statuses.{too_far}
use Rattle.typed_calls.proofs.Reach.{within}
use Rattle.typed_calls.proofs.changes.begin_reorg.Goals as goal

pub returns : goal.returns
returns c =
    within (Err (change_alone too_far)) (λ world a world'. BeginsWorld world c.args.moment c.args.element c.args.pieces a world') c.args.bounded.now c.args.moment c.is_too_far.result
    c.begin_in.result c.begin_in.new.world c.is_too_far.ensures c.if-is_too_far.false c.begin_in.ensures
