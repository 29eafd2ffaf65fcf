use Rattle.std.proofs.Common.{sym, subst, Ok, Option, arith}
use Rattle.reorganise.specs.declared.read.Reading.{Reading}
use Rattle.shared_rollout.specs.Operator.{WasLooked}
use Rattle.shared_rollout.specs.inner.Attempts.{Attempt, Attempts}
use Rattle.shared_rollout.proofs.Attempts.{later, next_quiet, none_left, unread, was_read}
use Rattle.shared_rollout.proofs.attempt.work.Goals as goal

pub commit-requires-clause-seen : goal.commit-requires-clause-seen
commit-requires-clause-seen g c = omega (arith, c.requires.seen, (next_quiet g.L.SharedLedger.start c.args.ask.now c.args.me.now c.next_view.new.me c.args.element (Ok c.in-Ok-Some.field-0) c.in-Ok-Some.ensures).2)

pub commit-requires-clause-read : goal.commit-requires-clause-read
commit-requires-clause-read g c =
    subst (λ (o : Option Reading). WasLooked g.L.SharedLedger.start c.args.ask.now c.args.element (Ok o)) c.in-Ok-Some.field-0-is
    (was_read g.L.SharedLedger.start c.args.ask.now c.args.me.now c.next_view.new.me c.args.element c.in-Ok-Some.field-0 c.requires.seen c.in-Ok-Some.ensures)

pub returns-in-Ok-Some : goal.returns-in-Ok-Some
returns-in-Ok-Some g c =
    let q = next_quiet g.L.SharedLedger.start c.args.ask.now c.args.me.now c.next_view.new.me c.args.element (Ok c.in-Ok-Some.field-0) c.in-Ok-Some.ensures in
    later g.L.SharedLedger.start c.args.ask.now c.args.me.now c.next_view.new.me c.commit.new.me c.commit.result q.0 q.1 q.2 c.commit.ensures

pub returns-in-Ok-None : goal.returns-in-Ok-None
returns-in-Ok-None g c =
    none_left g.L.SharedLedger.start c.args.ask.now c.args.me.now c.next_view.new.me c.args.element c.requires.due
    (subst (λ (o : Option Reading). WasLooked g.L.SharedLedger.start c.args.ask.now c.args.element (Ok o)) c.in-Ok-None.field-0-is
    (was_read g.L.SharedLedger.start c.args.ask.now c.args.me.now c.next_view.new.me c.args.element c.in-Ok-None.field-0 c.requires.seen c.in-Ok-None.ensures))
    (next_quiet g.L.SharedLedger.start c.args.ask.now c.args.me.now c.next_view.new.me c.args.element (Ok c.in-Ok-None.field-0) c.in-Ok-None.ensures)

pub returns-in-Err : goal.returns-in-Err
returns-in-Err g c =
    subst (λ (r : Attempt). Attempts g.L.SharedLedger.start c.args.ask.now c.args.me.now r c.next_view.new.me) (sym c.of_read.ensures)
    (unread g.L.SharedLedger.start c.args.ask.now c.args.me.now c.next_view.new.me c.args.element c.in-Err.fault c.requires.seen c.requires.due c.in-Err.ensures)
