use Rattle.std.proofs.Common.{Ok, subst}
use Rattle.world.specs.declared.committed.Committed.{Committed}
use Rattle.world.specs.Calls.{CommitStep}
use Rattle.replica.proofs.Txns.{txn_done, txn_refused, txn_failed}
use Rattle.replica.proofs.txn.commit_again.Goals as goal

pub returns-in-Ok-Done : goal.returns-in-Ok-Done
returns-in-Ok-Done c =
    txn_done c.args.world.now c.commit.new.self c.args.now c.args.lease.now c.args.ops.now c.args.prepared.schema c.args.prepared c.in-Ok-Done.receipt c.requires.later c.requires.prepared c.lemma_made.ensures
    (subst (λ (d : Committed). CommitStep c.args.world.now c.args.now c.args.prepared (Ok d) c.commit.new.self) c.in-Ok-Done.field-0-is c.in-Ok-Done.ensures.step)

pub returns-in-Ok-Refused : goal.returns-in-Ok-Refused
returns-in-Ok-Refused c =
    txn_refused c.args.world.now c.commit.new.self c.args.now c.args.lease.now c.args.ops.now c.args.prepared.schema c.args.prepared c.in-Ok-Refused.field-0-0 c.in-Ok-Refused.field-0-1 c.requires.later c.requires.prepared
    (subst (λ (d : Committed). CommitStep c.args.world.now c.args.now c.args.prepared (Ok d) c.commit.new.self) c.in-Ok-Refused.field-0-is c.in-Ok-Refused.ensures.step)

pub returns-in-Err : goal.returns-in-Err
returns-in-Err c =
    txn_failed c.args.world.now c.commit.new.self c.args.now c.args.lease.now c.args.ops.now c.args.prepared.schema c.args.prepared c.in-Err.refusal c.commit_refusal.result c.requires.later c.requires.serves c.requires.there c.requires.prepared
    c.in-Err.ensures.step c.commit_refusal.ensures
