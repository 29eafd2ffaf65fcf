use Rattle.std.proofs.Common.{◌≡◌}
use Rattle.rollout.specs.Query.{QueryStep}
use Rattle.locked_store.specs.Answers.{no_place}
use Rattle.locked_store.proofs.Through.{answers_so}
use Rattle.locked_store.proofs.shared.Shared.query.Goals as goal

pub returns : goal.returns
returns g c =
    answers_so g.L.SharedLedger.start c.args.me.now c.query.result c.through.result c.query.new.me (λ s r d. QueryStep s c.args.moment c.args.lease.now c.args.query.now r × (d ≡ s)) no_place _ _ c.through.ensures c.query.ensures
