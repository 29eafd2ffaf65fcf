use Rattle.std.proofs.Common.{◌≡◌}
use Rattle.rollout.specs.Piece.{ReadStep}
use Rattle.locked_store.specs.Answers.{no_place}
use Rattle.locked_store.proofs.Through.{answers_so}
use Rattle.locked_store.proofs.shared.Shared.read_piece.Goals as goal

pub returns : goal.returns
returns g c =
    answers_so g.L.SharedLedger.start c.args.me.now c.read_piece.result c.through.result c.read_piece.new.me (λ s r d. ReadStep s c.args.element c.args.piece c.args.limit r × (d ≡ s)) no_place _ _ c.through.ensures c.read_piece.ensures
