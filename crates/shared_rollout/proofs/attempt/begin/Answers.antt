use Rattle.std.proofs.Common.{sym, subst}
use Rattle.shared_rollout.specs.inner.Attempts.{Attempt, Attempts}
use Rattle.shared_rollout.proofs.Attempts.{began}
use Rattle.shared_rollout.proofs.attempt.begin.Goals as goal

pub returns : goal.returns
returns g c =
    subst (λ (r : Attempt). Attempts g.L.SharedLedger.start c.args.ask.now c.args.me.now r c.begin_reorg-answer.new.me) (sym c.of_begin.ensures)
    (began g.L.SharedLedger.start c.args.ask.now c.args.me.now c.begin_reorg-answer.new.me c.args.element c.begin_reorg-answer.result c.requires.seen c.requires.due c.begin_reorg-answer.ensures)
