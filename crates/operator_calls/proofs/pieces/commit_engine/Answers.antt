use Rattle.std.proofs.Common.{arith}
use Rattle.std.proofs.lemmas.Int.{to_z-of_z}
use Rattle.operator_calls.proofs.PieceSteps.{commit_refused}
use Rattle.operator_calls.proofs.pieces.commit_engine.Goals as goal

pub returns-in-Err : goal.returns-in-Err
returns-in-Err c =
    commit_refused c.args.bounded.now c.commit_piece.new.bounded c.args.moment c.args.engine c.in-PreparedPiece.prepared c.in-Err.refusal _ c.of.result
    c.in-PreparedPiece.is c.of.ensures (grind (arith, to_z-of_z)) c.in-Err.ensures
