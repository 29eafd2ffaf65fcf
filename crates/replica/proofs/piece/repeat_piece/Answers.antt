use Rattle.std.proofs.Common.{Option, subst}
use Rattle.std.specs.Prelude.{MatchOption}
use Rattle.reorganise.specs.declared.read.Reading.{Reading}
use Rattle.world.specs.Piece.{CanComeTo, IsReadAsFar}
use Rattle.replica.proofs.Pieces.{elsewhere}
use Rattle.replica.proofs.piece.repeat_piece.Goals as goal

pub returns-in-Ok-None : goal.returns-in-Ok-None
returns-in-Ok-None c =
    let answer = λ (found : Option Reading). MatchOption found (CanComeTo c.args.world.now c.args.element c.args.piece c.args.cursor.now → ⊥) (λ read. IsReadAsFar c.args.world.now c.args.element c.args.piece c.args.cursor.now read) in
    elsewhere c.args.world.now c.args.now c.args.element c.args.piece c.args.cursor.now (subst answer c.in-Ok-None.field-0-is c.in-Ok-None.ensures)
