use Rattle.std.proofs.Common.{ℕ, subst}
use Rattle.reorganise_workers.specs.Ends.{IsAttempt}
use Rattle.reorganise_workers.proofs.attempt.make_attempt.Goals as goal

pub returns-in-Ok-clause-attempt : goal.returns-in-Ok-clause-attempt
returns-in-Ok-clause-attempt g c =
    subst (λ (piece : ℕ). IsAttempt g.L.SharedLedger.start c.args.job.now piece c.commit_items.result) c.in-Ok.ensures.own c.commit_items.ensures.attempt
