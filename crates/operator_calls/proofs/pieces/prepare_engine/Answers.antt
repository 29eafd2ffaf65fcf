use Rattle.std.proofs.Common.{arith}
use Rattle.std.proofs.lemmas.Int.{to_z-of_z}
use Rattle.operator_calls.proofs.PieceSteps.{piece_prepared, preparation_refused}
use Rattle.operator_calls.proofs.pieces.prepare_engine.Goals as goal

pub returns-in-Ok : goal.returns-in-Ok
returns-in-Ok c = piece_prepared c.args.engine c.in-Piece.view c.in-Ok.prepared c.in-Piece.is c.in-Ok.ensures

pub returns-in-Err : goal.returns-in-Err
returns-in-Err c = preparation_refused c.args.engine c.in-Piece.view c.in-Err.view c.in-Err.status _ c.in-Piece.is (grind (arith, to_z-of_z)) c.in-Err.ensures
