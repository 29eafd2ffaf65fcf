use Rattle.std.proofs.Common.{◌≡◌}
use Rattle.rollout.specs.WorkOff.{NextStep}
use Rattle.locked_store.specs.Answers.{no_place}
use Rattle.locked_store.proofs.Through.{answers_so}
use Rattle.locked_store.proofs.shared.Shared.next_view.Goals as goal

pub returns : goal.returns
returns g c =
    answers_so g.L.SharedLedger.start c.args.me.now c.next_view.result c.through.result c.next_view.new.me (λ s r d. NextStep s c.args.element c.args.limit r × (d ≡ s)) no_place _ _ c.through.ensures c.next_view.ensures
