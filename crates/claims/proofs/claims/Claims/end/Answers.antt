use Rattle.claims.proofs.Moves.{ends_most}
use Rattle.claims.proofs.claims.Claims.end.Goals as goal

pub returns : goal.returns
returns g c =
    ends_most c.args.self.table.shared.key _ _ _ _ _ c.args.self.key_is.0 c.args.self.key_is.1 c.word-word.ensures c.close-closed.ensures.values.2
