use Rattle.replica.proofs.Pieces.{piece_done, piece_failed}
use Rattle.replica.proofs.piece.commit_piece.Goals as goal

pub returns-in-Ok : goal.returns-in-Ok
returns-in-Ok c = piece_done c.args.world.now c.commit_piece.new.self c.args.now c.args.element c.args.piece c.args.cursor.now c.args.prepared c.in-Ok.done c.requires.later c.requires.read c.lemma_made.ensures c.in-Ok.ensures.step

pub returns-in-Err : goal.returns-in-Err
returns-in-Err c = piece_failed c.args.world.now c.commit_piece.new.self c.args.now c.args.element c.args.piece c.args.cursor.now c.args.prepared c.in-Err.refusal c.piece_refusal.result c.requires.later c.requires.read c.in-Err.ensures.step c.piece_refusal.ensures
