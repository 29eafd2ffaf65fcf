use Rattle.claims.proofs.Moves.{ends_all, ends_with}
use Rattle.claims.proofs.claims.Claims.end_with.Goals as goal

pub returns-clause-some : goal.returns-clause-some
returns-clause-some g c =
    (ends_with c.args.self.table.shared.key _ _ c.args.all.id c.args.all.me.0 _ _ _ c.args.self.key_is.0 c.args.self.key_is.1 c.word-word.ensures c.close_with-closed.ensures.values.2).0

pub returns-clause-all : goal.returns-clause-all
returns-clause-all g c all =
    ends_all c.args.self.table.shared.key _ c.args.all.id c.args.all.me.0 _ _ _ c.args.self.key_is.1 c.word-word.ensures c.close_with-closed.ensures.values.2 all

pub returns-clause-late : goal.returns-clause-late
returns-clause-late g c =
    (ends_with c.args.self.table.shared.key _ _ c.args.all.id c.args.all.me.0 _ _ _ c.args.self.key_is.0 c.args.self.key_is.1 c.word-word.ensures c.close_with-closed.ensures.values.2).1

pub returns-clause-most : goal.returns-clause-most
returns-clause-most g c =
    (ends_with c.args.self.table.shared.key _ _ c.args.all.id c.args.all.me.0 _ _ _ c.args.self.key_is.0 c.args.self.key_is.1 c.word-word.ensures c.close_with-closed.ensures.values.2).2
