use Rattle.std.proofs.Common.{refl, Err, ap, subst, ◌∙◌}
use Rattle.std.proofs.lemmas.Result.{err_from_is_err_and}
use Rattle.txn_store.specs.TestAndSet.{Sets}
use Rattle.replay.specs.declared.entry.What.{What}
use Rattle.replay.specs.declared.entry.Entry.{Entry}
use Rattle.replay.specs.Laws.{txn_entry}
use Rattle.world.proofs.Invariant.{IsLogged, logged}
use Rattle.world.proofs.CallSteps.{served_by, same_state, step_short, step_failed, step_done, done_held}
use Rattle.world.proofs.world.World.add_txn.Goals as goal

pub returns-in_err-what : goal.returns-in_err-what
returns-in_err-what c =
    let p = err_from_is_err_and c.from_residual.result c.from_residual.ensures.1 in
    record { step = rw p.1 (step_short c.args.self.now c.args.self.now c.args.now c.args.prepared.now p.0 c.requires.later c.requires.schema c.requires.serves refl p.2) }

pub returns-in_err-draft : goal.returns-in_err-draft
returns-in_err-draft c =
    let p = err_from_is_err_and c.from_residual-in_err-draft.result c.from_residual-in_err-draft.ensures.1 in
    let same = same_state c.self.inside c.self.inside.store c.make_ready.new.self refl c.in_err-draft.ensures.entries ∙ c.self.view_is in
    record { step = rw p.1 (step_short c.args.self.now _ c.args.now c.args.prepared.now p.0 c.requires.later c.requires.schema c.requires.serves same p.2) }

pub returns-in_err-test_and_set : goal.returns-in_err-test_and_set
returns-in_err-test_and_set c =
    let v = served_by c.self.inside c.args.self.now c.args.now c.args.prepared.now c.self.invariant c.self.view_is c.lemma_made.ensures c.requires.later c.requires.schema c.requires.serves in
    let p = err_from_is_err_and c.from_residual-in_err-test_and_set.result c.from_residual-in_err-test_and_set.ensures.1 in
    let s =
    subst (λ b. Sets c.args.prepared.now.expect b c.self.inside.store (Err c.in_err-test_and_set.field-0.0) c.test_and_set.new.self) c.batch-batch.ensures
    (subst (λ e. Sets e c.batch-batch.result.now c.self.inside.store (Err c.in_err-test_and_set.field-0.0) c.test_and_set.new.self) c.expect.ensures c.in_err-test_and_set.ensures) in
    record { step = rw p.1 (step_failed c.self.inside c.args.self.now c.args.now c.args.prepared.now c.in_err-test_and_set.field-0.0 p.0 c.test_and_set.new.self c.make_ready.new.self c.self.view_is v s c.in_ok-draft.ensures.entries p.2) }

pub invariant_of-self-2 : goal.invariant_of-self-2
invariant_of-self-2 c =
    let v = served_by c.self.inside c.args.self.now c.args.now c.args.prepared.now c.self.invariant c.self.view_is c.lemma_made.ensures c.requires.later c.requires.schema c.requires.serves in
    let s = rw (c.expect.ensures, c.batch-batch.ensures) at c.in_ok-test_and_set.ensures in
    let what = ap (λ (w : What). let e : Entry = record { moment = c.args.now; what = w } in e) c.in_ok-what.ensures in
    let entered : IsLogged c.self.inside.log (txn_entry c.args.now c.args.prepared.now) c.enter-receipt.result c.enter-receipt.new.self
    = logged c.self.inside.log c.make_ready.new.self c.enter-receipt.new.self c.in_ok-draft.draft (txn_entry c.args.now c.args.prepared.now) c.enter-receipt.result c.in_ok-draft.ensures.entries (c.in_ok-draft.ensures.draft ∙ what)
    c.enter-receipt.ensures.entries c.enter-receipt.ensures.moment c.enter-receipt.ensures.receipt in
    done_held c.self.inside c.args.now c.args.prepared.now c.test_and_set.new.self c.enter-receipt.new.self c.enter-receipt.result (record { outcome = c.lemma_transactions_keep.ensures.outcome; done = c.lemma_transactions_keep.ensures.done; refused = c.lemma_transactions_keep.ensures.refused }) v s c.requires.done entered

pub returns : goal.returns
returns c =
    let v = served_by c.self.inside c.args.self.now c.args.now c.args.prepared.now c.self.invariant c.self.view_is c.lemma_made.ensures c.requires.later c.requires.schema c.requires.serves in
    let s = rw (c.expect.ensures, c.batch-batch.ensures) at c.in_ok-test_and_set.ensures in
    let what = ap (λ (w : What). let e : Entry = record { moment = c.args.now; what = w } in e) c.in_ok-what.ensures in
    let entered : IsLogged c.self.inside.log (txn_entry c.args.now c.args.prepared.now) c.enter-receipt.result c.enter-receipt.new.self
    = logged c.self.inside.log c.make_ready.new.self c.enter-receipt.new.self c.in_ok-draft.draft (txn_entry c.args.now c.args.prepared.now) c.enter-receipt.result c.in_ok-draft.ensures.entries (c.in_ok-draft.ensures.draft ∙ what)
    c.enter-receipt.ensures.entries c.enter-receipt.ensures.moment c.enter-receipt.ensures.receipt in
    record {
      step = step_done c.self.inside c.args.self.now c.args.now c.args.prepared.now c.test_and_set.new.self c.enter-receipt.new.self c.enter-receipt.result (record { outcome = c.lemma_transactions_keep.ensures.outcome; done = c.lemma_transactions_keep.ensures.done; refused = c.lemma_transactions_keep.ensures.refused }) c.self.view_is v s c.requires.done entered;
    }
