use Rattle.rollout.specs.Publish.{PublishStep}
use Rattle.locked_store.specs.Answers.{publish_place}
use Rattle.locked_store.proofs.Through.{answers_so}
use Rattle.locked_store.proofs.shared.Shared.publish.Goals as goal

pub returns : goal.returns
returns g c =
    answers_so g.L.SharedLedger.start c.args.me.now c.publish.result c.through.result c.publish.new.me (λ s r d. PublishStep s c.args.moment c.args.step.now r d) publish_place _ _ c.through.ensures c.publish.ensures
