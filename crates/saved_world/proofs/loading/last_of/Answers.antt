use Rattle.std.proofs.Common.{Some, ap, ◌∙◌}
use Rattle.saved_world.proofs.Puts.{last_at}
use Rattle.saved_world.proofs.loading.last_of.Goals as goal

pub returns-in_ok-clone-in-len1-up : goal.returns-in_ok-clone-in-len1-up
returns-in_ok-clone-in-len1-up c = ap Some c.in_ok-clone-in-len1-up.ensures.cases ∙ last_at c.args.page.now c.index-page-page.result c.in-len1-up.len_at_least
