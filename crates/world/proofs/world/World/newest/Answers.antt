use Rattle.world.proofs.Invariant.{follow_of}
use Rattle.world.proofs.world.World.newest.Goals as goal

pub returns : goal.returns
returns c = (follow_of c.self.inside c.args.self.now c.self.invariant c.self.view_is).newest
