use Rattle.std.proofs.Common.{sym, subst, refl}
use Rattle.shared_rollout.specs.inner.Attempts.{Attempt, Attempts}
use Rattle.shared_rollout.proofs.Attempts.{unprepared, worked}
use Rattle.shared_rollout.proofs.attempt.commit.Goals as goal

pub returns-in_default : goal.returns-in_default
returns-in_default g c = unprepared g.L.SharedLedger.start c.args.ask.now c.args.me.now c.args.me.now refl

pub returns : goal.returns
returns g c =
    subst (λ (r : Attempt). Attempts g.L.SharedLedger.start c.args.ask.now c.args.me.now r c.commit_piece-answer.new.me) (sym c.of_commit.ensures)
    (worked g.L.SharedLedger.start c.args.ask.now c.args.me.now c.commit_piece-answer.new.me c.args.element c.args.view c.in-Ok.prepared c.commit_piece-answer.result c.requires.seen c.requires.due c.requires.read c.in-Ok.ensures.ok c.commit_piece-answer.ensures)
