use Rattle.std.proofs.Common.{◌≡◌, ◌++◌, drop, length}
use Rattle.layer_calls.specs.Pieces.{spans_from}
use Rattle.layer_calls.proofs.pieces.spans.Given as goal

abbrev pub invariant-loop-bound : goal.invariant-loop-bound
invariant-loop-bound l =
    l.out.items ++ spans_from (length l.out.items) l.piece l.cursor (drop l.bound-index l.bounds) ≡ l.fn.out.items ++ spans_from (length l.fn.out.items) l.piece l.cursor l.bounds
