use Rattle.std.proofs.Common.{Err}
use Rattle.typed_calls.specs.Leases.{LeasesWorld}
use Rattle.typed_calls.specs.Statuses.{too_far}
use Rattle.typed_calls.proofs.Reach.{within}
use Rattle.typed_calls.proofs.leases.lease.Goals as goal

pub returns : goal.returns
returns c =
    within (Err too_far) (λ world a world'. LeasesWorld world c.args.moment a world') c.args.bounded.now c.args.moment c.is_too_far.result
    c.lease_of.result c.lease_of.new.world c.is_too_far.ensures c.if-is_too_far.false c.lease_of.ensures
