use Rattle.rollout.specs.Piece.{PieceStep}
use Rattle.locked_store.specs.Answers.{piece_place}
use Rattle.locked_store.proofs.Through.{answers_back_so}
use Rattle.locked_store.proofs.shared.Shared.commit_piece.Goals as goal

pub returns : goal.returns
returns g c =
    answers_back_so g.L.SharedLedger.start c.args.me.now c.args.prepared c.commit_piece.result c.through_back.result c.commit_piece.new.me (λ s r d. PieceStep s c.args.moment c.args.prepared r d) piece_place _ _ c.through_back.ensures c.commit_piece.ensures
