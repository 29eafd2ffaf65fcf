use Rattle.std.proofs.Common.{Err, refl, sym, subst, ◌∙◌}
use Rattle.std.proofs.lemmas.Result.{err_from_is_err_and}
use Rattle.txn_store.specs.TestAndSet.{Sets}
use Rattle.world.proofs.CallSteps.{served_by, step_failed, step_refused, refused_held}
use Rattle.world.proofs.world.World.commit_at.Goals as goal

pub invariant_of-self-in-Refused : goal.invariant_of-self-in-Refused
invariant_of-self-in-Refused c =
    let v = served_by c.self.inside c.args.self.now c.args.now c.args.prepared.now c.self.invariant c.self.view_is c.lemma_made.ensures c.requires.later c.requires.schema c.requires.serves in
    let s = rw (c.expect.ensures, c.batch.ensures) at c.in_ok-test_and_set-in-Refused.ensures in
    refused_held c.self.inside c.args.now c.args.prepared.now c.in-Refused.op c.in-Refused.why c.test_and_set.new.self (record { outcome = c.lemma_transactions_keep.ensures.outcome; done = c.lemma_transactions_keep.ensures.done; refused = c.lemma_transactions_keep.ensures.refused }) v s (sym c.outcome.ensures ∙ c.in-Refused.is)

pub returns-in_ok-test_and_set-in-Refused : goal.returns-in_ok-test_and_set-in-Refused
returns-in_ok-test_and_set-in-Refused c =
    let v = served_by c.self.inside c.args.self.now c.args.now c.args.prepared.now c.self.invariant c.self.view_is c.lemma_made.ensures c.requires.later c.requires.schema c.requires.serves in
    let s = rw (c.expect.ensures, c.batch.ensures) at c.in_ok-test_and_set-in-Refused.ensures in
    record { step = step_refused c.self.inside c.args.self.now c.args.now c.args.prepared.now c.in-Refused.op c.in-Refused.why c.test_and_set.new.self (record { outcome = c.lemma_transactions_keep.ensures.outcome; done = c.lemma_transactions_keep.ensures.done; refused = c.lemma_transactions_keep.ensures.refused }) c.self.view_is v s (sym c.outcome.ensures ∙ c.in-Refused.is) }

pub returns-in_err-test_and_set-in-Refused : goal.returns-in_err-test_and_set-in-Refused
returns-in_err-test_and_set-in-Refused c =
    let v = served_by c.self.inside c.args.self.now c.args.now c.args.prepared.now c.self.invariant c.self.view_is c.lemma_made.ensures c.requires.later c.requires.schema c.requires.serves in
    let p = err_from_is_err_and c.from_residual.result c.from_residual.ensures.1 in
    let s =
    subst (λ b. Sets c.args.prepared.now.expect b c.self.inside.store (Err c.in_err-test_and_set-in-Refused.field-0.0) c.test_and_set.new.self) c.batch.ensures
    (subst (λ e. Sets e c.batch.result.now c.self.inside.store (Err c.in_err-test_and_set-in-Refused.field-0.0) c.test_and_set.new.self) c.expect.ensures c.in_err-test_and_set-in-Refused.ensures) in
    record { step = rw p.1 (step_failed c.self.inside c.args.self.now c.args.now c.args.prepared.now c.in_err-test_and_set-in-Refused.field-0.0 p.0 c.test_and_set.new.self c.self.inside.log c.self.view_is v s refl p.2) }
