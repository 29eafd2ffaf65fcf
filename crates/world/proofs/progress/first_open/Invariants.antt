use Rattle.std.proofs.Common.{◌≡◌, drop}
use Rattle.reorganise.specs.Left.{open_from}
use Rattle.world.proofs.progress.first_open.Given as goal

-- the pieces before this one have ended
abbrev pub invariant-loop-piece : goal.invariant-loop-piece
invariant-loop-piece l = (l.number ≡ l.piece-index) × (open_from l.number (drop l.piece-index l.pieces) ≡ open_from 0 l.pieces)
