use Rattle.std.proofs.Common.{Err}
use Rattle.typed_calls.specs.Commit.{CommitsWorld}
use Rattle.typed_calls.specs.Refusals.{refused}
use Rattle.typed_calls.specs.Statuses.{too_far}
use Rattle.typed_calls.proofs.Reach.{within}
use Rattle.typed_calls.proofs.commits.commit.Goals as goal

pub returns : goal.returns
returns c =
    within (Err (refused too_far, c.args.prepared)) (λ world a world'. CommitsWorld world c.args.moment c.args.prepared a world') c.args.bounded.now c.args.moment c.is_too_far.result
    c.commit_to.result c.commit_to.new.world c.is_too_far.ensures c.if-is_too_far.false c.commit_to.ensures
