use Rattle.std.proofs.Common.{◌≡◌, ◌+◌, drop}
use Rattle.world.specs.inner.Left.{empties_left}
use Rattle.world.proofs.progress.count_left.Given as goal

-- those counted so far and those of the pieces that are left are all
abbrev pub invariant-loop-piece : goal.invariant-loop-piece
invariant-loop-piece l = l.left + empties_left l.store (drop l.piece-index l.pieces) ≡ empties_left l.store l.pieces
