use Rattle.std.proofs.Common.{ap, ◌∙◌}
use Rattle.std.specs.FinMap as map
use Rattle.std.proofs.lemmas.Result.{IfOk-weaker}
use Rattle.world.specs.inner.Read.{noted_reads}
use Rattle.world.specs.State.{State}
use Rattle.world.proofs.Views.{read_view}
use Rattle.world.proofs.world.World.read.Goals as goal

pub returns : goal.returns
returns c =
    IfOk-weaker _ _ _ (λ view is. read_view c.args.self.now c.self.inside.store c.args.keys.now view (ap (λ (s : State). s.pairs) c.self.view_is) (is ∙ ap (noted_reads c.self.inside.store map.empty) c.entries.ensures.all)) c.read_all.ensures
