use Rattle.handles.specs.Statuses.{too_far}
use Rattle.handles.proofs.Steps.{within}
use Rattle.operator_calls.specs.Advances.{advance_alone, AdvancesWorld}
use Rattle.operator_calls.proofs.advances.advance_in.Goals as goal

pub returns : goal.returns
returns c =
    within (advance_alone too_far) (λ world a world'. AdvancesWorld world c.args.moment c.args.pieces c.args.limit a world') c.args.bounded.now c.args.moment
    c.is_too_far.result c.advance_world.result c.advance_world.new.world c.is_too_far.ensures c.if-is_too_far.false c.advance_world.ensures
