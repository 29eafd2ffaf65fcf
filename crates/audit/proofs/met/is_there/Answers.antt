use Rattle.std.proofs.Common.{sym, ◌∙◌}
use Rattle.audit.proofs.LastMet.{named_there}
use Rattle.audit.proofs.met.is_there.Goals as goal

pub returns-then-is_last : goal.returns-then-is_last
returns-then-is_last g c = sym (named_there (g.V.PairView.pairs c.args.view.now) c.args.last.now c.args.table c.args.key.now c.requires.there (sym c.is_last.ensures ∙ c.if-is_last.true))
