use Rattle.std.proofs.Common.{max, ap, ◌∙◌}
use Rattle.world.proofs.Invariant.{counted_is}
use Rattle.world.proofs.world.World.effective_moment.Goals as goal

pub returns : goal.returns
returns c = counted_is c.self.inside c.args.self.now c.self.invariant c.self.view_is c.args.moment c.max.result (c.max.ensures ∙ ap (max c.args.moment) c.moment.ensures)
