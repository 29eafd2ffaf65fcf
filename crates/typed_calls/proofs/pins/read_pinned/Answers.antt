use Rattle.typed_calls.proofs.Pinned.{pinned_view}
use Rattle.typed_calls.proofs.pins.read_pinned.Goals as goal

pub returns : goal.returns
returns c = pinned_view c.args.world.now c.args.keys.now c.args.pins.now c.in_ok-view.view c.pin_all.new.view c.in_ok-view.ensures c.in_ok-pin_all.ensures
