use Rattle.std.proofs.Common.{◌≡◌}
use Rattle.std.specs.Prelude.{IfOk}
use Rattle.rollout.specs.Calls.{effective_moment}
use Rattle.rollout.specs.Due.{IsDue}
use Rattle.rollout.specs.State.{facts_of}
use Rattle.locked_store.specs.Answers.{no_place}
use Rattle.locked_store.proofs.Through.{answers_so}
use Rattle.locked_store.proofs.shared.Shared.due.Goals as goal

pub returns : goal.returns
returns g c =
    answers_so g.L.SharedLedger.start c.args.me.now c.due.result c.through.result c.due.new.me (λ s r d. IfOk r (λ act. IsDue (facts_of s) (effective_moment s c.args.moment) act) × (d ≡ s)) no_place _ _ c.through.ensures c.due.ensures
