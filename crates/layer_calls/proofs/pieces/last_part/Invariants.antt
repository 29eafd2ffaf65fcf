use Rattle.std.proofs.Common.{◌≤◌, drop, length}
use Rattle.std.specs.List.{AllByRecursion}
use Rattle.row_map.specs.Rows.{Bytes}
use Rattle.layer_calls.specs.Pieces.{CanGo}
use Rattle.layer_calls.proofs.pieces.last_part.Given as goal

abbrev pub invariant-loop-at : goal.invariant-loop-at
invariant-loop-at l = (l.at ≤ length l.pairs) × AllByRecursion (λ (pair : Bytes × Bytes). ¬ (CanGo l.progress l.piece l.cursor pair.0)) (drop l.at l.pairs)

abbrev pub decreases-loop-at : goal.decreases-loop-at
decreases-loop-at l = l.at
