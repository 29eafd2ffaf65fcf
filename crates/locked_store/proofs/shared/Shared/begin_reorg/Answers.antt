use Rattle.rollout.specs.BeginReorg.{BeginStep}
use Rattle.locked_store.specs.Answers.{receipt_place}
use Rattle.locked_store.proofs.Through.{answers_so}
use Rattle.locked_store.proofs.shared.Shared.begin_reorg.Goals as goal

pub returns : goal.returns
returns g c =
    answers_so g.L.SharedLedger.start c.args.me.now c.begin_reorg.result c.through.result c.begin_reorg.new.me (λ s r d. BeginStep s c.args.moment c.args.element c.args.pieces r d) receipt_place _ _ c.through.ensures c.begin_reorg.ensures
