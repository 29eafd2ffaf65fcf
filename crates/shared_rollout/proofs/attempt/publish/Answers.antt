use Rattle.std.proofs.Common.{sym, subst}
use Rattle.shared_rollout.specs.inner.Attempts.{Attempt, Attempts}
use Rattle.shared_rollout.proofs.Attempts.{published}
use Rattle.shared_rollout.proofs.attempt.publish.Goals as goal

pub returns : goal.returns
returns g c =
    subst (λ (r : Attempt). Attempts g.L.SharedLedger.start c.args.ask.now c.args.me.now r c.publish-answer.new.me) (sym c.of_publish.ensures)
    (published g.L.SharedLedger.start c.args.ask.now c.args.me.now c.publish-answer.new.me c.args.step.now c.publish-answer.result c.requires.seen c.requires.due c.publish-answer.ensures)
