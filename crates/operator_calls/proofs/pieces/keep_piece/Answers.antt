use Rattle.std.proofs.Common.{arith}
use Rattle.std.proofs.lemmas.Int.{to_z-of_z}
use Rattle.operator_calls.proofs.PieceSteps.{piece_filled}
use Rattle.operator_calls.proofs.pieces.keep_piece.Goals as goal

pub returns-in-Ok : goal.returns-in-Ok
returns-in-Ok c =
    piece_filled c.args.world.now c.args.element c.args.piece c.args.limit c.in-Ok.view _ c.fill.result c.fill.new.self.place.value (grind (arith, to_z-of_z))
    c.in-Ok.ensures c.fill.ensures
