use Rattle.std.proofs.Common.{rules, sym}
use Rattle.locked_store.proofs.locked.Locked.check_front.Goals as goal

pub returns-then-seen-me-clause-back : goal.returns-then-seen-me-clause-back
returns-then-seen-me-clause-back g c = (search rules, (c.self.inside.world, c.self.invariant.0, sym c.log_len-seen.ensures))
