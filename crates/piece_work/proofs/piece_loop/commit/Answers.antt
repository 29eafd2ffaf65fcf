use Rattle.std.proofs.Common.{Ok, subst}
use Rattle.reorganise.specs.declared.read.Reading.{Reading}
use Rattle.world.specs.Piece.{PieceStep}
use Rattle.piece_work.proofs.piece_loop.commit.Goals as goal

pub returns-in-Ok-commit_piece-clause-done : goal.returns-in-Ok-commit_piece-clause-done
returns-in-Ok-commit_piece-clause-done c = (
  c.in-Ok-commit_piece.field-0,
  subst (λ (r : Reading). PieceStep c.args.world.now c.args.moment r (Ok c.in-Ok-commit_piece.field-0) c.commit_piece.new.self) c.in-Ok.ensures.ok c.in-Ok-commit_piece.ensures.step,
)
