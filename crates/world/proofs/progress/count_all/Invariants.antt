use Rattle.std.proofs.Common.{◌≡◌, ◌+◌, drop}
use Rattle.world.specs.inner.Left.{empties_in}
use Rattle.world.proofs.progress.count_all.Given as goal

-- those counted so far and those of the pieces that are left make all
abbrev pub invariant-loop-piece : goal.invariant-loop-piece
invariant-loop-piece l = l.all + empties_in l.store (drop l.piece-index l.pieces) ≡ empties_in l.store l.pieces
