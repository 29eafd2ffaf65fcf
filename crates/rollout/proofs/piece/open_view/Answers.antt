use Rattle.rollout.proofs.Accepted.{not_ended}
use Rattle.rollout.proofs.piece.open_view.Goals as goal

pub returns-in-Ok-Some : goal.returns-in-Ok-Some
returns-in-Ok-Some c = rw c.in-Ok-Some.field-0-is at c.in-Ok-Some.ensures

pub unreachable-requires : goal.unreachable-requires
unreachable-requires c = not_ended c.args.world.now c.args.element c.requires.open (rw c.in-Ok-None.field-0-is at c.in-Ok-None.ensures)
