use Rattle.std.proofs.Common.{arith, sym, ◌∙◌}
use Rattle.std.proofs.lemmas.Int.{to_z-of_z}
use Rattle.handles.proofs.Steps.{holds_nothing}
use Rattle.operator_calls.proofs.PieceSteps.{piece_read}
use Rattle.operator_calls.proofs.pieces.read_piece.Goals as goal

pub returns-clause-reads : goal.returns-clause-reads
returns-clause-reads c =
    piece_read c.args.world.now.place.value c.args.work.now.place.value c.keep_piece-status.new.work.place.value c.args.element c.args.piece c.args.limit
    c.in-Some.engine.value c.in-World.bounded _ c.keep_piece-status.result
    (holds_nothing c.args.work.now.place.value c.is_open.result c.is_open.ensures c.if-is_open.false)
    c.in-Some.ensures.engine (sym c.deref.ensures ∙ c.in-World.is) (grind (arith, to_z-of_z)) c.keep_piece-status.ensures
