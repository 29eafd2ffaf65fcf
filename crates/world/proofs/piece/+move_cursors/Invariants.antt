use Rattle.std.proofs.Common.{length}
use Rattle.world.proofs.piece.+move_cursors.Given as goal

abbrev pub decreases-move_cursors : goal.decreases-move_cursors
decreases-move_cursors l = length l.begun.now
