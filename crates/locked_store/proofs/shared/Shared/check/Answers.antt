use Rattle.std.proofs.Common.{◌≡◌}
use Rattle.std.specs.Prelude.{IfOk}
use Rattle.rollout.specs.Calls.{IsCheck}
use Rattle.locked_store.specs.Answers.{no_place}
use Rattle.locked_store.proofs.Through.{answers_so}
use Rattle.locked_store.proofs.shared.Shared.check.Goals as goal

pub returns : goal.returns
returns g c =
    answers_so g.L.SharedLedger.start c.args.me.now c.check.result c.through.result c.check.new.me (λ s r d. IfOk r (λ report. IsCheck s report) × (d ≡ s)) no_place _ _ c.through.ensures c.check.ensures
