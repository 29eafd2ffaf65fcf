use Rattle.rollout.specs.Calls.{LeaseStep}
use Rattle.locked_store.specs.Answers.{grant_place}
use Rattle.locked_store.proofs.Through.{answers_so}
use Rattle.locked_store.proofs.shared.Shared.lease.Goals as goal

pub returns : goal.returns
returns g c =
    answers_so g.L.SharedLedger.start c.args.me.now c.lease.result c.through.result c.lease.new.me (λ s r d. LeaseStep s c.args.moment r d) grant_place _ _ c.through.ensures c.lease.ensures
