use Rattle.std.proofs.Common.{arith}
use Rattle.std.proofs.lemmas.Int.{to_z-of_z}
use Rattle.handles.proofs.Steps.{holds_nothing}
use Rattle.operator_calls.proofs.PieceSteps.{piece_moves, piece_stays}
use Rattle.operator_calls.proofs.pieces.prepare_piece.Goals as goal

pub returns-in-Ok : goal.returns-in-Ok
returns-in-Ok c =
    piece_moves c.args.work.now.place.value c.args.prepared.now.place.value c.take.new.self.place.value c.put.new.self.place.value c.in-Some.engine.value
    c.taken_out-held.result.0 c.in-Ok.made c.filled.result.value _
    (holds_nothing c.args.prepared.now.place.value c.is_open.result c.is_open.ensures c.if-is_open.false)
    c.in-Some.ensures.engine c.taken_out-held.ensures (grind (arith, to_z-of_z)) c.take.ensures.closed c.in-Ok.ensures c.filled.ensures c.put.ensures

pub returns-in-Err : goal.returns-in-Err
returns-in-Err c =
    piece_stays c.args.work.now.place.value c.args.prepared.now.place.value c.put-in-Err.new.self.place.value c.args.prepared.now.place.value c.in-Some.engine.value
    c.taken_out-held.result.0 c.in-Err.left c.filled-in-Err.result.value _ c.in-Err.status
    (holds_nothing c.args.prepared.now.place.value c.is_open.result c.is_open.ensures c.if-is_open.false)
    c.in-Some.ensures.engine c.taken_out-held.ensures (grind (arith, to_z-of_z))
    (holds_nothing c.args.prepared.now.place.value c.is_open.result c.is_open.ensures c.if-is_open.false) c.in-Err.ensures c.filled-in-Err.ensures c.put-in-Err.ensures
