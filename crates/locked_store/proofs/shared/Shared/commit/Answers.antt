use Rattle.rollout.specs.Calls.{CommitStep}
use Rattle.locked_store.specs.Answers.{commit_place}
use Rattle.locked_store.proofs.Through.{answers_kept_so}
use Rattle.locked_store.proofs.shared.Shared.commit.Goals as goal

pub returns : goal.returns
returns g c =
    answers_kept_so g.L.SharedLedger.start c.args.me.now c.args.prepared c.commit-answer.result c.with_prepared.result c.commit-answer.new.me (λ s r d. CommitStep s c.args.moment c.args.prepared r d) commit_place _ _ c.with_prepared.ensures c.commit-answer.ensures
